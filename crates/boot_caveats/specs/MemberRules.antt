-- What is to be looked up of the definitions of the members that a boot looks at, as rules.
use Rattle.std.specs.Prelude.{◌≡◌, ◌≢◌, ◌<◌, ℕ, true, List, slice_get, None, Some}
use Rattle.pico_board.specs.declared.boot.Cpu.{Cpu}
use Rattle.pico_board.specs.declared.window.Window.{Window}
use Rattle.pico_board.specs.Content.{Content, window_bytes}
use Rattle.block_codec.specs.declared.items.Item.{Item}
use Rattle.block_codec.specs.Blocks.{BlockView}
use Rattle.block_codec.specs.Items.{items_of}
use Rattle.load_map.specs.Loads.{entry_count, is_absolute}
use Rattle.image_check.specs.declared.examining.Defined.{Defined}
use Rattle.image_check.specs.Valid.{IsDefined}
use Rattle.boot_reasons.specs.declared.looks.UnitReport.{UnitReport}
use Rattle.slot_caveats.specs.declared.caveat.Caveat.{Caveat}
use Rattle.slot_caveats.specs.declared.caveat.Caveat.TheVariants.{LongDefinition, AbsoluteMap, BareHash}
use Rattle.slot_caveats.specs.Listing.{AreBoth, AreOfEach, IsOfOne, IsWhere}
use Rattle.boot_caveats.specs.ImageCaveats.{looked_windows}
use Rattle.boot_caveats.specs.MemberCaveats.{entry_word}
use Rattle.slot_caveats.specs.SlotRules.{IsLastWhere}
use Rattle.slot_caveats.specs.Sought.{is_long_definition}

-- the window's loop closes, and its last block with more than 384 bytes that would suit the
-- processor if it were shorter stands at this offset
abbrev pub IsLongDefinition : Content → Cpu → Window → List Caveat → Type 0
IsLongDefinition c cpu w =
    IsOfOne
    (λ at. (b : BlockView) × IsLastWhere (is_long_definition cpu) (window_bytes c w) b
    × (b.at ≡ at))
    (LongDefinition w)

-- a window has a definition whose items are read; its LOAD_MAP is absolute and has an entry whose
-- first word is neither 0 nor its second word
pub record HasAbsoluteMap (cpu : Cpu) (bytes : List ℕ) : Type 0 where
  pub loop : List BlockView
  pub image : Defined
  pub place : ℕ
  pub item : Item
  pub entry : ℕ
  pub defined : IsDefined cpu bytes loop image
  pub map : image.def.map_item ≡ Some place
  pub at : slice_get (items_of image.block.items) place ≡ Some item
  pub absolute : is_absolute item ≡ true
  pub among : entry < entry_count item
  pub stored : entry_word image.block item entry 1 ≢ 0
  pub moved : entry_word image.block item entry 1 ≢ entry_word image.block item entry 2

-- a window has a definition whose items are read, with a HASH_VALUE and no LOAD_MAP
pub record HasBareHash (cpu : Cpu) (bytes : List ℕ) : Type 0 where
  pub loop : List BlockView
  pub image : Defined
  pub digest : List ℕ
  pub defined : IsDefined cpu bytes loop image
  pub value : image.def.digest ≡ Some digest
  pub bare : image.def.map_item ≡ None

abbrev pub IsAbsoluteMap : Content → Cpu → Window → List Caveat → Type 0
IsAbsoluteMap c cpu w = IsWhere (HasAbsoluteMap cpu (window_bytes c w)) (AbsoluteMap w)

abbrev pub IsBareHash : Content → Cpu → Window → List Caveat → Type 0
IsBareHash c cpu w = IsWhere (HasBareHash cpu (window_bytes c w)) (BareHash w)

-- each window of a member of a unit that is looked at: first each long definition, then each
-- absolute map, then each bare hash
abbrev pub AreMemberCaveats : Content → Cpu → List UnitReport → List Caveat → Type 0
AreMemberCaveats c cpu looks =
    AreBoth (AreOfEach (IsLongDefinition c cpu) (looked_windows looks))
    (AreBoth (AreOfEach (IsAbsoluteMap c cpu) (looked_windows looks))
    (AreOfEach (IsBareHash c cpu) (looked_windows looks)))
