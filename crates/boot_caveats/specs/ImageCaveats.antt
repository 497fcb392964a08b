-- What is to be looked up of the windows that a boot looks at, and of owned partitions, as
-- functions.
use Rattle.std.specs.Prelude.{ℕ, ◌+◌, ◌==◌, ◌&&◌, ◌||◌, not, nat_lt, Bool, true, false, if◌then◌else◌, List, [], ◌∷◌, ◌++◌, length, slice_get, Option, Some, None, option_and_then, option_to_list, Result, Ok, Err}
use Rattle.std.specs.List.{filter_map, flat_map, list_any, range_with_len}
use Rattle.std.specs.Option.{option_map_or}
use Rattle.std.specs.Result.{result_ok}
use Rattle.pico_board.specs.declared.boot.Cpu.{Cpu}
use Rattle.pico_board.specs.declared.window.Window.{Window}
use Rattle.pico_board.specs.Windows.{is_same_window}
use Rattle.pico_board.specs.declared.window.TheConstants.{SMALLEST_SLOT}
use Rattle.pico_board.specs.Content.{Content, window_bytes}
use Rattle.block_codec.specs.declared.kinds.TheConstants.{IMAGE_TYPE, HASH_DEF, HASH_VALUE, VERSION}
use Rattle.block_codec.specs.Items.{items_of}
use Rattle.block_codec.specs.Kinds.{is_of_kind}
use Rattle.block_codec.specs.Blocks.{BlockView, block_size}
use Rattle.block_loop.specs.Loop.{first_block, loop_of}
use Rattle.image_def.specs.declared.started.Started.{Started}
use Rattle.image_def.specs.declared.fault.DefFault.{DefFault}
use Rattle.image_def.specs.declared.fault.DefFault.TheVariants.{Repeated, BadItem, BadRow, RepeatedRow}
use Rattle.image_def.specs.Suits.{last_suiting}
use Rattle.load_map.specs.declared.load.MapFault.{MapFault}
use Rattle.load_map.specs.declared.load.MapFault.TheVariants.{Storage, Runtime, CoversBlock}
use Rattle.image_check.specs.declared.why.Why.{Why}
use Rattle.image_check.specs.declared.why.Why.TheVariants.{NoBlock, Loop, NoDefinition, NotForProcessor, Items, Trial, RollbackRequired, Below, Map, Entry, Digest, Delta}
use Rattle.part_table.specs.declared.partition.Partition.{Partition}
use Rattle.part_table.specs.declared.table.Table.{Table}
use Rattle.part_table.specs.Links.{is_owned}
use Rattle.part_table.specs.Partitions.{part_at}
use Rattle.part_table.specs.Windows.{part_window}
use Rattle.slot_choice.specs.declared.unit.SlotUnit.{SlotUnit}
use Rattle.boot_rules.specs.declared.decision.Decision.{Decision}
use Rattle.boot_rules.specs.declared.decision.Decision.TheVariants.{Start, Bootsel}
use Rattle.boot_rules.specs.declared.decision.Fall.TheVariants.{Requested, FlashOff, NoImage}
use Rattle.boot_rules.specs.Tables.{slot_window}
use Rattle.boot_reasons.specs.declared.looks.UnitReport.{UnitReport}
use Rattle.slot_caveats.specs.declared.caveat.Caveat.{Caveat}
use Rattle.slot_caveats.specs.declared.caveat.Caveat.TheVariants.{FirstBlock, ItemOrder, MayStart, OwnedImage}
use Rattle.slot_caveats.specs.Listing.{caveat_if}
use Rattle.boot_caveats.specs.ChoiceCaveats.{has_normal_image}
use Rattle.boot_caveats.specs.Unread.{is_rollback}

-- the windows of a unit's members, A first
abbrev pub unit_windows : SlotUnit → List Window
unit_windows u = u.a ∷ option_to_list u.b

-- the windows of the members of the units that are looked at, in the order of looking
abbrev pub looked_windows : List UnitReport → List Window
looked_windows looks = flat_map (λ (look : UnitReport). unit_windows look.unit) looks

-- the table slots, and then these windows
abbrev pub read_windows : ℕ → List UnitReport → List Window
read_windows size looks = slot_window size 0 ∷ slot_window size 1 ∷ looked_windows looks

abbrev pub is_window : Window → Window → Bool
is_window w v = is_same_window v w

-- the windows, each where it first stands; those that stand in `before` are left out
abbrev pub first_places : List Window → List Window → List Window
first_places before [] = []
first_places before (w ∷ ws) =
    if list_any (is_window w) before then first_places before ws
    else w ∷ first_places (before ++ w ∷ []) ws

-- a boot that decides so reads blocks
abbrev pub reads_blocks : Decision → Bool
reads_blocks (Start choice) = true
reads_blocks (Bootsel Requested) = false
reads_blocks (Bootsel FlashOff) = false
reads_blocks (Bootsel NoImage) = true

-- the first block of a window ends after the window's first 4096 bytes
abbrev pub ends_late : BlockView → Bool
ends_late b = nat_lt SMALLEST_SLOT (b.at + block_size b)

abbrev pub late_first : Content → Window → Option Caveat
late_first c w =
    caveat_if (option_map_or ends_late (first_block (window_bytes c w)) false) (FirstBlock w)

abbrev pub late_firsts : Content → Decision → ℕ → List UnitReport → List Caveat
late_firsts c d size looks =
    if reads_blocks d
    then filter_map (late_first c) (first_places [] (read_windows size looks))
    else []

-- the definition of a window with these bytes: the last block of its loop that suits the processor
abbrev pub definition_in : Cpu → List ℕ → Option BlockView
definition_in cpu bytes = option_and_then (last_suiting cpu) (result_ok (loop_of bytes))

-- the first item of a block is no IMAGE_TYPE item
abbrev pub begins_otherwise : BlockView → Bool
begins_otherwise b =
    not (option_map_or (is_of_kind IMAGE_TYPE) (slice_get (items_of b.items) 0) false)

abbrev pub item_order : Content → Cpu → Window → Option Caveat
item_order c cpu w =
    caveat_if (option_map_or begins_otherwise (definition_in cpu (window_bytes c w)) false)
    (ItemOrder w)

-- the rules that the chip may not judge
abbrev pub is_doubtful_item : DefFault → Bool
is_doubtful_item (Repeated kind) = false
is_doubtful_item (BadItem kind) = kind == HASH_DEF || (kind == HASH_VALUE || kind == VERSION)
is_doubtful_item (BadRow row) = true
is_doubtful_item (RepeatedRow row) = true

abbrev pub is_doubtful_map : MapFault → Bool
is_doubtful_map (Storage i) = false
is_doubtful_map (Runtime i) = true
is_doubtful_map (CoversBlock i) = true

abbrev pub is_doubtful : Why → Bool
is_doubtful NoBlock = false
is_doubtful (Loop fault) = false
is_doubtful NoDefinition = false
is_doubtful NotForProcessor = false
is_doubtful (Items fault) = is_doubtful_item fault
is_doubtful Trial = false
is_doubtful RollbackRequired = false
is_doubtful (Below version count) = false
is_doubtful (Map fault) = is_doubtful_map fault
is_doubtful (Entry fault) = true
is_doubtful Digest = false
is_doubtful Delta = true

-- a boot that does not apply the rule on rollback rows starts in this window, if it starts
abbrev pub is_at : Option Window → Window → Bool
is_at unread w = option_map_or (is_window w) unread false

-- a member's image fails such a rule; or it fails the rule on rollback rows, and a boot that does
-- not apply that rule starts in its window
abbrev pub may_start : Option Window → Window → Result Started Why → Option Caveat
may_start unread w (Ok s) = None
may_start unread w (Err why) =
    caveat_if (is_doubtful why || (is_rollback why && is_at unread w)) (MayStart w why)

-- the same of the second member's image, where there is a second member
abbrev pub second_may_start : Option Window → Option Window → Option (Result Started Why)
    → Option Caveat
second_may_start unread None image = None
second_may_start unread (Some w) None = None
second_may_start unread (Some w) (Some image) = may_start unread w image

abbrev pub look_may_start : Option Window → UnitReport → List Caveat
look_may_start unread look =
    option_to_list (may_start unread look.unit.a look.first)
    ++ option_to_list (second_may_start unread look.unit.b look.second)

-- a partition has an owner, and its window an image
abbrev pub owned_image : Content → Cpu → List Partition → ℕ → Option Caveat
owned_image c cpu parts i =
    caveat_if
    (is_owned (part_at parts i) && has_normal_image c cpu (part_window (part_at parts i)))
    (OwnedImage i)

abbrev pub owned_images : Content → Cpu → Option Table → List Caveat
owned_images c cpu None = []
owned_images c cpu (Some t) =
    filter_map (owned_image c cpu t.parts.items) (range_with_len 0 (length t.parts.items))
