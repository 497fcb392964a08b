-- What is to be looked up of the definitions of the members that a boot looks at, as functions.
use Rattle.std.specs.Prelude.{ℕ, ◌+◌, ◌*◌, ◌==◌, ◌&&◌, not, Bool, false, List, ◌++◌, slice_get, slice_index, is_some, Option, option_map, option_and_then}
use Rattle.std.specs.List.{filter_map, list_any, range_with_len}
use Rattle.std.specs.Option.{option_map_or}
use Rattle.std.specs.Result.{result_ok}
use Rattle.pico_board.specs.declared.boot.Cpu.{Cpu}
use Rattle.pico_board.specs.declared.window.Window.{Window}
use Rattle.pico_board.specs.Content.{Content, window_bytes}
use Rattle.block_codec.specs.declared.items.Item.{Item}
use Rattle.block_codec.specs.Blocks.{BlockView, block_words}
use Rattle.block_codec.specs.Items.{items_of}
use Rattle.load_map.specs.Loads.{entry_count, is_absolute}
use Rattle.image_check.specs.declared.examining.Defined.{Defined}
use Rattle.image_check.specs.Image.{defined_in}
use Rattle.boot_reasons.specs.declared.looks.UnitReport.{UnitReport}
use Rattle.slot_caveats.specs.declared.caveat.Caveat.{Caveat}
use Rattle.slot_caveats.specs.declared.caveat.Caveat.TheVariants.{LongDefinition, AbsoluteMap, BareHash}
use Rattle.slot_caveats.specs.Listing.{caveat_if}
use Rattle.boot_caveats.specs.ImageCaveats.{looked_windows}
use Rattle.slot_caveats.specs.SlotCaveats.{last_where}
use Rattle.slot_caveats.specs.Sought.{is_long_definition}

-- the last such block of a window
abbrev pub long_definition : Content → Cpu → Window → Option Caveat
long_definition c cpu w =
    option_map (λ (b : BlockView). LongDefinition w b.at)
    (last_where (is_long_definition cpu) (window_bytes c w))

-- a word of the entry at place i of a LOAD_MAP item, counted from 1 (RP2350 Datasheet, chapter 5,
-- "Load map")
abbrev pub entry_word : BlockView → Item → ℕ → ℕ → ℕ
entry_word b item i k = slice_index (block_words b) (item.first + (3 * i + k))

-- an entry's first word is neither 0 nor its second word: the image is stored elsewhere than it
-- runs
abbrev pub moves : ℕ → ℕ → Bool
moves place runtime = not (place == 0) && not (place == runtime)

abbrev pub is_moving : BlockView → Item → ℕ → Bool
is_moving b item i = moves (entry_word b item i 1) (entry_word b item i 2)

-- a LOAD_MAP item has such an entry
abbrev pub has_moving_entry : BlockView → Item → Bool
has_moving_entry b item = list_any (is_moving b item) (range_with_len 0 (entry_count item))

-- a LOAD_MAP item is absolute and has such an entry (the same source; what its third word is, is to
-- be looked up)
abbrev pub is_moving_map : BlockView → Item → Bool
is_moving_map b item = is_absolute item && has_moving_entry b item

abbrev pub has_moving_map : Defined → Bool
has_moving_map image =
    option_map_or (is_moving_map image.block)
    (option_and_then (slice_get (items_of image.block.items)) image.def.map_item) false

-- a definition has a HASH_VALUE and no LOAD_MAP (RP2350 Datasheet, chapter 5, "Image definition
-- items"; what is hashed then is to be looked up)
abbrev pub has_bare_hash : Defined → Bool
has_bare_hash image = is_some image.def.digest && not (is_some image.def.map_item)

-- the definition of a window whose items are read passes a test
abbrev pub definition_passes : (Defined → Bool) → Cpu → List ℕ → Bool
definition_passes passes cpu bytes =
    option_map_or passes (result_ok (defined_in cpu bytes)) false

abbrev pub absolute_map : Content → Cpu → Window → Option Caveat
absolute_map c cpu w =
    caveat_if (definition_passes has_moving_map cpu (window_bytes c w)) (AbsoluteMap w)

abbrev pub bare_hash : Content → Cpu → Window → Option Caveat
bare_hash c cpu w = caveat_if (definition_passes has_bare_hash cpu (window_bytes c w)) (BareHash w)

-- the caveats of the definitions of these windows
abbrev pub window_doubts : Content → Cpu → List Window → List Caveat
window_doubts c cpu windows =
    filter_map (long_definition c cpu) windows
    ++ (filter_map (absolute_map c cpu) windows ++ filter_map (bare_hash c cpu) windows)

-- the caveats of the definitions of the members that are looked at, in the order of looking
abbrev pub member_caveats : Content → Cpu → List UnitReport → List Caveat
member_caveats c cpu looks = window_doubts c cpu (looked_windows looks)
