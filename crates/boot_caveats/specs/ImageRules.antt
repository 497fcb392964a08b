-- What is to be looked up of the windows that a boot looks at, and of owned partitions, as rules.
use Rattle.std.specs.Prelude.{◌≡◌, ◌⊎◌, ℕ, ◌+◌, ◌<◌, false, true, List, [], ◌∷◌, ◌++◌, Contains, slice_get, Option, Some, None, Result, Err}
use Rattle.pico_board.specs.declared.boot.Cpu.{Cpu}
use Rattle.pico_board.specs.declared.boot.BootKind.{BootKind}
use Rattle.pico_board.specs.declared.window.Window.{Window}
use Rattle.pico_board.specs.declared.window.TheConstants.{SMALLEST_SLOT}
use Rattle.pico_board.specs.Content.{Content, window_bytes}
use Rattle.block_codec.specs.declared.items.Item.{Item}
use Rattle.block_codec.specs.declared.kinds.TheConstants.{IMAGE_TYPE, HASH_DEF, HASH_VALUE, VERSION}
use Rattle.block_codec.specs.Items.{items_of}
use Rattle.block_codec.specs.Kinds.{is_of_kind}
use Rattle.block_codec.specs.Blocks.{BlockView, block_size}
use Rattle.block_loop.specs.Loop.{IsFirstBlock, IsLoop}
use Rattle.image_def.specs.declared.started.Started.{Started}
use Rattle.image_def.specs.declared.fault.DefFault.TheVariants.{BadItem, BadRow, RepeatedRow}
use Rattle.image_def.specs.Suits.{does_suit}
use Rattle.load_map.specs.declared.load.MapFault.TheVariants.{Runtime, CoversBlock}
use Rattle.image_check.specs.declared.why.EntryFault.{EntryFault}
use Rattle.image_check.specs.declared.why.Why.{Why}
use Rattle.image_check.specs.declared.why.Why.TheVariants.{Items, RollbackRequired, Below, Map, Entry, Delta}
use Rattle.image_check.specs.Valid.{IsLastWith, Valid}
use Rattle.part_table.specs.declared.partition.Partition.{Partition}
use Rattle.part_table.specs.declared.table.Table.{Table}
use Rattle.part_table.specs.Links.{is_owned}
use Rattle.part_table.specs.Partitions.{part_at}
use Rattle.part_table.specs.Windows.{part_window}
use Rattle.slot_choice.specs.declared.choice.Choice.{Choice}
use Rattle.boot_rules.specs.declared.decision.Decision.{Decision}
use Rattle.boot_rules.specs.declared.decision.Decision.TheVariants.{Start, Bootsel}
use Rattle.boot_rules.specs.declared.decision.Fall.TheVariants.{NoImage}
use Rattle.boot_rules.specs.Chosen.{Chosen}
use Rattle.boot_reasons.specs.declared.looks.UnitReport.{UnitReport}
use Rattle.slot_caveats.specs.declared.caveat.Caveat.{Caveat}
use Rattle.slot_caveats.specs.declared.caveat.Caveat.TheVariants.{FirstBlock, ItemOrder, MayStart, OwnedImage}
use Rattle.slot_caveats.specs.Listing.{AreBoth, AreOfEach, IsOfOne, IsWhere}
use Rattle.boot_caveats.specs.ChoiceRules.{StartsIn}
use Rattle.boot_caveats.specs.ImageCaveats.{looked_windows, read_windows}
use Rattle.slot_caveats.specs.TableRules.{AreOfParts}
use Rattle.boot_caveats.specs.Unread.{unread_content}

-- the second list has the elements of the first, each where it first stands, but for those that
-- stand before
abbrev pub AreFirstPlaces : {X : Type 0} → List X → List X → List X → Type 0
AreFirstPlaces before [] ys = ys ≡ []
AreFirstPlaces {X} before (x ∷ xs) ys =
    (Contains before x × AreFirstPlaces before xs ys)
    ⊎ ((Contains before x → ⊥)
    × ((rest : List X) × (ys ≡ x ∷ rest) × AreFirstPlaces (before ++ x ∷ []) xs rest))

-- the decision is a start or that no image starts
abbrev pub ReadsBlocks : Decision → Type 0
ReadsBlocks d = ((choice : Choice) × (d ≡ Start choice)) ⊎ (d ≡ Bootsel NoImage)

-- the first block of a window ends after the window's first 4096 bytes
abbrev pub HasLateFirst : Content → Window → Type 0
HasLateFirst c w =
    (b : BlockView) × IsFirstBlock (window_bytes c w) b × (SMALLEST_SLOT < b.at + block_size b)

-- where the decision is a start, or that no image starts: each table slot, and each window of a
-- member of a unit that is looked at; no window comes twice
abbrev pub AreLateFirsts : Content → Decision → ℕ → List UnitReport → List Caveat → Type 0
AreLateFirsts c d size looks list =
    (ReadsBlocks d
    × ((windows : List Window) × AreFirstPlaces [] (read_windows size looks) windows
    × AreOfEach (λ w. IsWhere (HasLateFirst c w) (FirstBlock w)) windows list))
    ⊎ ((ReadsBlocks d → ⊥) × (list ≡ []))

-- a window has a definition whose first item is no IMAGE_TYPE
pub record BeginsOtherwise (c : Content) (cpu : Cpu) (w : Window) : Type 0 where
  pub loop : List BlockView
  pub block : BlockView
  pub closes : IsLoop (window_bytes c w) loop
  pub defines : IsLastWith (does_suit cpu) loop block
  pub order : (item : Item) → slice_get (items_of block.items) 0 ≡ Some item
      → is_of_kind IMAGE_TYPE item ≡ false

-- each window of a member of a unit that is looked at
abbrev pub AreItemOrders : Content → Cpu → List UnitReport → List Caveat → Type 0
AreItemOrders c cpu looks =
    AreOfEach (λ w. IsWhere (BeginsOtherwise c cpu w) (ItemOrder w)) (looked_windows looks)

-- the rules that the chip may not judge
pub data IsDoubtful : Why → Type 0 where
  bad_row : (row : ℕ) → IsDoubtful (Items (BadRow row))
  repeated_row : (row : ℕ) → IsDoubtful (Items (RepeatedRow row))
  bad_version : IsDoubtful (Items (BadItem VERSION))
  covers_block : (i : ℕ) → IsDoubtful (Map (CoversBlock i))
  runtime : (i : ℕ) → IsDoubtful (Map (Runtime i))
  bad_hash_def : IsDoubtful (Items (BadItem HASH_DEF))
  bad_hash_value : IsDoubtful (Items (BadItem HASH_VALUE))
  entry : (fault : EntryFault) → IsDoubtful (Entry fault)
  delta : IsDoubtful Delta

-- the rule on rollback rows, which the chip may not apply
pub data IsRollback : Why → Type 0 where
  required : IsRollback RollbackRequired
  below : (version count : ℕ) → IsRollback (Below version count)

-- a boot that does not apply this rule starts in a window
abbrev pub StartsUnread : Content → Cpu → BootKind → Window → Type 0
StartsUnread c cpu kind w =
    (d : Decision) × Chosen (unread_content c) cpu kind d × StartsIn d w

-- a member has no image that counts by a rule that the chip may not judge, or by the rule on
-- rollback rows, where a boot that does not apply it starts in its window
abbrev pub IsMayStart : Content → Cpu → BootKind → Window → Result Started Why → List Caveat
    → Type 0
IsMayStart c cpu kind w image =
    IsOfOne
    (λ why. (image ≡ Err why)
    × (IsDoubtful why ⊎ (IsRollback why × StartsUnread c cpu kind w)))
    (MayStart w)

-- the second member, where there is one
abbrev pub IsSecondMayStart : Content → Cpu → BootKind → Option Window
    → Option (Result Started Why) → List Caveat → Type 0
IsSecondMayStart c cpu kind None image list = list ≡ []
IsSecondMayStart c cpu kind (Some w) None list = list ≡ []
IsSecondMayStart c cpu kind (Some w) (Some image) list = IsMayStart c cpu kind w image list

abbrev pub AreMayStarts : Content → Cpu → BootKind → List UnitReport → List Caveat → Type 0
AreMayStarts c cpu kind looks =
    AreOfEach
    (λ (look : UnitReport). AreBoth (IsMayStart c cpu kind look.unit.a look.first)
    (IsSecondMayStart c cpu kind look.unit.b look.second)) looks

-- a partition has an owner, and its window is valid for the processor with trial not allowed
abbrev pub IsOwnedImage : Content → Cpu → List Partition → ℕ → List Caveat → Type 0
IsOwnedImage c cpu parts i =
    IsWhere
    ((is_owned (part_at parts i) ≡ true)
    × ((s : Started) × Valid c (part_window (part_at parts i)) cpu false s))
    (OwnedImage i)

abbrev pub AreOwnedImages : Content → Cpu → Option Table → List Caveat → Type 0
AreOwnedImages c cpu table = AreOfParts table (IsOwnedImage c cpu)
