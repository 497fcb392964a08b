-- What the tables of the slots say that the model does not read or judges otherwise, as rules.
use Rattle.std.specs.Prelude.{◌≡◌, ◌≢◌, ◌⊎◌, ℕ, ◌<◌, true, false, List, [], length, Option, Some, Result, Ok, Err}
use Rattle.std.specs.List.{range_with_len}
use Rattle.pico_board.specs.declared.window.TheConstants.{MOST_FLASH_BYTES}
use Rattle.part_table.specs.declared.partition.Partition.{Partition}
use Rattle.part_table.specs.declared.table.Table.{Table}
use Rattle.part_table.specs.declared.table.TableFault.TheVariants.{Range}
use Rattle.part_table.specs.Fields.{has_bit}
use Rattle.part_table.specs.Partitions.{part_at}
use Rattle.boot_rules.specs.declared.slots.SlotFault.{SlotFault}
use Rattle.boot_rules.specs.declared.slots.SlotFault.TheVariants.{Table as Faulty}
use Rattle.slot_caveats.specs.declared.caveat.Caveat.{Caveat}
use Rattle.slot_caveats.specs.declared.caveat.Caveat.TheVariants.{ShortFlash, UnreadTargets, UnreadSide, TableTie}
use Rattle.slot_caveats.specs.Listing.{AreBoth, AreOfEach, IsOfOne, IsWhere}
use Rattle.slot_caveats.specs.TableCaveats.{unread_families}

-- the last block with a PARTITION_TABLE item of a slot has the fault Range(i); the flash, of n
-- bytes, is shorter than 16 MiB
abbrev pub IsShortFlash : ℕ → ℕ → Result Table SlotFault → List Caveat → Type 0
IsShortFlash n number answer =
    IsOfOne (λ i. (answer ≡ Err (Faulty (Range i))) × (n < MOST_FLASH_BYTES)) (ShortFlash number)

-- there is a table; its unpartitioned word has a bit of 14 to 19 other than that of the absolute
-- family
abbrev pub IsUnreadTargets : Option Table → List Caveat → Type 0
IsUnreadTargets table =
    IsOfOne
    (λ bits. (t : Table) × (table ≡ Some t) × (bits ≡ unread_families t.unpartitioned)
    × (bits ≢ 0)) UnreadTargets

-- a partition has flag bit 11
abbrev pub IsUnreadSide : List Partition → ℕ → List Caveat → Type 0
IsUnreadSide parts i = IsWhere (has_bit (part_at parts i).flags 11 ≡ true) (UnreadSide i)

-- each partition of the table, where there is one
abbrev pub AreOfParts : Option Table → (List Partition → ℕ → List Caveat → Type 0) → List Caveat
    → Type 0
AreOfParts table Is list =
    ((t : Table) × (table ≡ Some t)
    × AreOfEach (Is t.parts.items) (range_with_len 0 (length t.parts.items)) list)
    ⊎ (((t : Table) → table ≡ Some t → ⊥) × (list ≡ []))

abbrev pub AreUnread : Option Table → List Caveat → Type 0
AreUnread table = AreBoth (IsUnreadTargets table) (AreOfParts table IsUnreadSide)

-- both slots have a table, that of slot 0 is no singleton, the versions are equal, and the tables
-- differ
pub record AreTied (first second : Result Table SlotFault) : Type 0 where
  pub table : Table
  pub other : Table
  pub stands : first ≡ Ok table
  pub beside : second ≡ Ok other
  pub plain : table.singleton ≡ false
  pub versions : table.version ≡ other.version
  pub differ : table ≢ other

abbrev pub IsTableTie : Result Table SlotFault → Result Table SlotFault → List Caveat → Type 0
IsTableTie first second = IsWhere (AreTied first second) TableTie
