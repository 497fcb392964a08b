-- What each table slot has or lacks, and the partition table of a flash, in the words of the rules
-- (RP2350 Datasheet, chapter 5, "Partition tables"; the choice between two tables is this project's
-- own).
use Rattle.std.specs.Prelude.{◌≡◌, ◌⊎◌, ℕ, ◌*◌, ◌/◌, true, false, List, length, Result, Ok, Err}
use Rattle.std.specs.List.{AllByRecursion}
use Rattle.pico_board.specs.Content.{Content, window_bytes}
use Rattle.block_codec.specs.Blocks.{BlockView}
use Rattle.block_loop.specs.Loop.{IsLoopFault, IsLoop}
use Rattle.image_check.specs.Valid.{IsLastWith}
use Rattle.otp_roll.specs.Flags.{slot_size}
use Rattle.part_table.specs.declared.table.Table.{Table}
use Rattle.part_table.specs.declared.table.TableFault.{TableFault}
use Rattle.part_table.specs.TableOf.{has_table}
use Rattle.part_table.specs.Rules.{IsReadTo}
use Rattle.boot_rules.specs.declared.slots.SlotFault.{SlotFault}
use Rattle.boot_rules.specs.declared.slots.SlotFault.TheVariants.{Loop, NoTable, Table as Faulty}
use Rattle.boot_rules.specs.declared.tables.Found.{Found}
use Rattle.boot_rules.specs.Tables.{is_first_taken, slot_window}

-- the bytes of slot 0 or 1
abbrev pub slot_bytes : Content → ℕ → List ℕ
slot_bytes c number = window_bytes c (slot_window (slot_size c.otp (length c.flash)) number)

-- the slot's loop closes, and the last of its blocks that has a PARTITION_TABLE item is read to
-- this. It is read for the sectors of the flash, of which those behind both slots are free
pub record IsSlotRead (c : Content) (number : ℕ) (read : Result Table TableFault) : Type 0 where
  pub loop : List BlockView
  pub block : BlockView
  pub closes : IsLoop (slot_bytes c number) loop
  pub last : IsLastWith has_table loop block
  pub reads : IsReadTo block (length c.flash / 4096) (2 * slot_size c.otp (length c.flash) / 4096)
      read

-- the slot's loop closes, and none of its blocks has a PARTITION_TABLE item
pub record HasNoTableBlock (c : Content) (number : ℕ) : Type 0 where
  pub loop : List BlockView
  pub closes : IsLoop (slot_bytes c number) loop
  pub without : AllByRecursion (λ b. has_table b ≡ false) loop

-- slot 0 or 1 has this table, or lacks one for this reason. Its loop has this fault, or no block of
-- its loop has a PARTITION_TABLE item, or the last such block has this fault
abbrev pub IsSlotAnswer : Content → ℕ → Result Table SlotFault → Type 0
IsSlotAnswer c number (Ok t) = IsSlotRead c number (Ok t)
IsSlotAnswer c number (Err (Loop fault)) = IsLoopFault (slot_bytes c number) fault
IsSlotAnswer c number (Err NoTable) = HasNoTableBlock c number
IsSlotAnswer c number (Err (Faulty fault)) = IsSlotRead c number (Err fault)

-- t is the table of slot 0 or 1
abbrev pub IsSlotTable : Content → ℕ → Table → Type 0
IsSlotTable c number t = IsSlotAnswer c number (Ok t)

-- t is the table of slot 0, and is taken also where slot 1 has a table
pub record IsFirstTable (c : Content) (t : Table) : Type 0 where
  pub stands : IsSlotTable c 0 t
  pub taken : (u : Table) → IsSlotTable c 1 u → is_first_taken t u ≡ true

-- t is the table of slot 1, and a table of slot 0 is not taken
pub record IsSecondTable (c : Content) (t : Table) : Type 0 where
  pub stands : IsSlotTable c 1 t
  pub taken : (u : Table) → IsSlotTable c 0 u → is_first_taken u t ≡ false

-- `table_in` in words: the table of slot 0 or that of slot 1, whichever is taken
abbrev pub IsTableIn : Content → Found → Type 0
IsTableIn c found = ((found.slot ≡ 0) × IsFirstTable c found.table)
    ⊎ ((found.slot ≡ 1) × IsSecondTable c found.table)
