-- What stands in the table slots, which the model takes otherwise than the chip may, as functions.
use Rattle.std.specs.Prelude.{ℕ, ◌-◌, ◌==◌, ◌&&◌, ◌||◌, not, nat_lt, Bool, true, false, if◌then◌else◌, List, ◌++◌, length, slice_get, find, reverse, is_some, Option, Some, None, option_map, option_and_then, option_to_list, Result, Ok, Err}
use Rattle.std.specs.Option.{option_map_or}
use Rattle.std.specs.Result.{result_ok}
use Rattle.pico_board.specs.declared.window.Window.{Window}
use Rattle.pico_board.specs.declared.window.TheConstants.{SMALLEST_SLOT}
use Rattle.pico_board.specs.Content.{Content, window_bytes}
use Rattle.block_codec.specs.declared.kinds.TheConstants.{PARTITION_TABLE}
use Rattle.block_codec.specs.Blocks.{BlockView}
use Rattle.block_codec.specs.Items.{items_of}
use Rattle.block_codec.specs.Kinds.{is_of_kind}
use Rattle.block_codec.specs.Reading.{block_at}
use Rattle.block_loop.specs.declared.fault.LoopFault.{LoopFault}
use Rattle.block_loop.specs.declared.fault.LoopFault.TheVariants.{NoBlock as NoFirst, Broken, TooMany, Overlap}
use Rattle.block_loop.specs.Loop.{block_at_offset, loop_of, target}
use Rattle.image_def.specs.Flags.{image_kind}
use Rattle.image_def.specs.Suits.{image_flags_of}
use Rattle.part_table.specs.declared.table.Table.{Table}
use Rattle.part_table.specs.declared.table.TableFault.{TableFault}
use Rattle.part_table.specs.declared.table.TableFault.TheVariants.{BadItem, Permissions, Range, Overlap as SharedSector, Link, Hash}
use Rattle.part_table.specs.TableOf.{has_table}
use Rattle.boot_rules.specs.declared.slots.SlotFault.{SlotFault}
use Rattle.boot_rules.specs.declared.slots.SlotFault.TheVariants.{Loop, NoTable, Table as Faulty}
use Rattle.boot_rules.specs.Tables.{slot_window}
use Rattle.boot_reasons.specs.declared.slots.TableInForce.{TableInForce}
use Rattle.slot_caveats.specs.declared.caveat.Caveat.{Caveat}
use Rattle.slot_caveats.specs.declared.caveat.Caveat.TheVariants.{ImageInSlot, SlotEnd, FaultyTable, TableOrder}
use Rattle.slot_caveats.specs.Listing.{caveat_if}
use Rattle.slot_caveats.specs.TableCaveats.{short_flash}

-- the last block that passes a test of the loop of a window with these bytes
abbrev pub last_where : (BlockView → Bool) → List ℕ → Option BlockView
last_where passes bytes =
    option_and_then (λ loop. find passes (reverse loop)) (result_ok (loop_of bytes))

-- the window of the flash's bytes from an offset on
abbrev pub flash_from : Content → ℕ → Window
flash_from c at = record { start = at; len = length c.flash - at }

-- a block is executable where its first IMAGE_TYPE item has kind 1, whatever else it says (RP2350
-- Datasheet, chapter 5, "Image definition items")
abbrev pub is_executable : BlockView → Bool
is_executable b = option_map_or (λ flags. image_kind flags == 1) (image_flags_of b) false

-- the loop of these bytes closes, and a block of it is executable
abbrev pub has_executable : List ℕ → Bool
has_executable bytes = is_some (last_where is_executable bytes)

-- the bytes of a slot have such a loop, or those of the flash from the slot's start on
abbrev pub has_slot_image : Content → Window → Bool
has_slot_image c w =
    has_executable (window_bytes c w) || has_executable (window_bytes c (flash_from c w.start))

-- there is a table, and a slot has such a loop
abbrev pub image_in_slot : Content → Option TableInForce → ℕ → Window → Option Caveat
image_in_slot c table number w =
    caveat_if (is_some table && has_slot_image c w) (ImageInSlot number)

-- the offset of the block whose link leads to no block, where a loop is broken
abbrev pub broken_place : Result (List BlockView) LoopFault → Option ℕ
broken_place (Ok loop) = None
broken_place (Err NoFirst) = None
broken_place (Err (Broken at)) = Some at
broken_place (Err TooMany) = None
broken_place (Err (Overlap i j)) = None

-- the link of the block at an offset of a slot's bytes leads to a whole block of the flash's
abbrev pub leads_on : List ℕ → List ℕ → ℕ → Bool
leads_on bytes more at =
    is_some (option_and_then (λ b. block_at_offset more (target b)) (block_at bytes at))

abbrev pub place_behind : List ℕ → List ℕ → Option ℕ
place_behind bytes more =
    option_and_then (λ at. if leads_on bytes more at then Some at else None)
    (broken_place (loop_of bytes))

-- without a table, and with slots above the smallest size: a slot's loop is broken where the flash
-- goes on behind the slot
abbrev pub slot_end : Content → Option TableInForce → Window → Option Caveat
slot_end c table w =
    if not (is_some table) && nat_lt SMALLEST_SLOT w.len
    then option_map (SlotEnd w)
    (place_behind (window_bytes c w) (window_bytes c (flash_from c w.start)))
    else None

-- a table's fault other than that of its digest
abbrev pub is_hash : TableFault → Bool
is_hash BadItem = false
is_hash (Permissions i) = false
is_hash (Range i) = false
is_hash (SharedSector i j) = false
is_hash (Link i) = false
is_hash Hash = true

abbrev pub fault_of_table : Result Table SlotFault → Option TableFault
fault_of_table (Ok t) = None
fault_of_table (Err (Loop fault)) = None
fault_of_table (Err NoTable) = None
fault_of_table (Err (Faulty fault)) = if is_hash fault then None else Some fault

-- a slot's table has such a fault, which is not that of a flash that is too short
abbrev pub table_fault : ℕ → ℕ → Result Table SlotFault → Option Caveat
table_fault n number answer =
    if is_some (short_flash n number answer) then None
    else option_map (FaultyTable number) (fault_of_table answer)

-- the first item of a block is a PARTITION_TABLE item
abbrev pub begins_table : BlockView → Bool
begins_table b = option_map_or (is_of_kind PARTITION_TABLE) (slice_get (items_of b.items) 0) false

-- the last block of a slot's loop with a PARTITION_TABLE item begins with another item
abbrev pub has_other_order : List ℕ → Bool
has_other_order bytes = option_map_or (λ b. not (begins_table b)) (last_where has_table bytes) false

abbrev pub table_order : Content → ℕ → Window → Option Caveat
table_order c number w = caveat_if (has_other_order (window_bytes c w)) (TableOrder number)

-- the caveats of one subject, for slot 0 and then for slot 1, of this size
abbrev pub of_slots : ℕ → (ℕ → Window → Option Caveat) → List Caveat
of_slots size told =
    option_to_list (told 0 (slot_window size 0)) ++ option_to_list (told 1 (slot_window size 1))

-- the caveats of what stands in the slots
abbrev pub slot_caveats : Content → ℕ → Option TableInForce → Result Table SlotFault
    → Result Table SlotFault → List Caveat
slot_caveats c size table first second =
    of_slots size (image_in_slot c table)
    ++ (of_slots size (λ number. slot_end c table)
    ++ (option_to_list (table_fault (length c.flash) 0 first)
    ++ (option_to_list (table_fault (length c.flash) 1 second)
    ++ of_slots size (table_order c))))
