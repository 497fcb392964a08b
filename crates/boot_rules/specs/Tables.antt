-- What each table slot has or lacks, and the partition table of a flash (RP2350 Datasheet, chapter
-- 5, "Partition tables"; the choice between two tables is this project's own).
use Rattle.std.specs.Prelude.{ℕ, Bool, ◌*◌, ◌/◌, ◌||◌, not, if◌then◌else◌, List, length, reverse, find, Option, Some, None, option_map, Result, Ok, Err}
use Rattle.std.specs.Result.{result_ok}
use Rattle.pico_board.specs.declared.window.Window.{Window}
use Rattle.pico_board.specs.Content.{Content, window_bytes}
use Rattle.block_codec.specs.Blocks.{BlockView}
use Rattle.block_loop.specs.Loop.{loop_of}
use Rattle.block_loop.specs.declared.fault.LoopFault.{LoopFault}
use Rattle.otp_roll.specs.Flags.{slot_size}
use Rattle.part_table.specs.declared.table.Table.{Table}
use Rattle.part_table.specs.declared.table.TableFault.{TableFault}
use Rattle.part_table.specs.TableOf.{has_table, table_of}
use Rattle.slot_choice.specs.Versions.{is_below}
use Rattle.boot_rules.specs.declared.slots.SlotFault.{SlotFault}
use Rattle.boot_rules.specs.declared.slots.SlotFault.TheVariants.{Loop, NoTable, Table as Faulty}
use Rattle.boot_rules.specs.declared.tables.Found.{Found}

-- the window of table slot 0 or 1, each of one slot size, from the flash's start
abbrev pub slot_window : ℕ → ℕ → Window
slot_window size number = record { start = number * size; len = size }

-- what was read of a block, or the fault of the slot
abbrev pub block_answer : Result Table TableFault → Result Table SlotFault
block_answer (Ok t) = Ok t
block_answer (Err fault) = Err (Faulty fault)

-- the table of the last block of a loop that has a PARTITION_TABLE item, where there is one
abbrev pub answer_in_block : ℕ → ℕ → Option BlockView → Result Table SlotFault
answer_in_block sectors first None = Err NoTable
answer_in_block sectors first (Some b) = block_answer (table_of b sectors first)

abbrev pub answer_in_loop : ℕ → ℕ → Result (List BlockView) LoopFault → Result Table SlotFault
answer_in_loop sectors first (Ok blocks) =
    answer_in_block sectors first (find has_table (reverse blocks))
answer_in_loop sectors first (Err fault) = Err (Loop fault)

-- the table of a slot with these bytes, in a flash of so many sectors whose first free one is
-- given, or why it has none
abbrev pub slot_answer : ℕ → ℕ → List ℕ → Result Table SlotFault
slot_answer sectors first bytes = answer_in_loop sectors first (loop_of bytes)

-- the answer of slot 0 or 1 of a content
abbrev pub slot_answer_in : Content → ℕ → Result Table SlotFault
slot_answer_in c number =
    let size = slot_size c.otp (length c.flash) in
    slot_answer (length c.flash / 4096) (2 * size / 4096)
    (window_bytes c (slot_window size number))

-- of the tables of both slots slot 0's is taken: it is a singleton, or not of a lower version
abbrev pub is_first_taken : Table → Table → Bool
is_first_taken first second = first.singleton || not (is_below first.version second.version)

-- of two tables the one that is taken; otherwise the only one
abbrev pub found_of : Option Table → Option Table → Option Found
found_of None None = None
found_of None (Some second) = Some (record { slot = 1; table = second })
found_of (Some first) None = Some (record { slot = 0; table = first })
found_of (Some first) (Some second) =
    if is_first_taken first second then Some (record { slot = 0; table = first })
    else Some (record { slot = 1; table = second })

-- the table of a content with its slot, or none: TableIn. Why a slot has none is forgotten.
unfoldable pub table_in : Content → Option Found
table_in c = found_of (result_ok (slot_answer_in c 0)) (result_ok (slot_answer_in c 1))

-- the table of a content without its slot, if there is one
abbrev pub table_of_content : Content → Option Table
table_of_content c = option_map (λ (found : Found). found.table) (table_in c)
