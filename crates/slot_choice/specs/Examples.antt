-- Worked examples of units, with their answers worked out by hand from the rules.
use Rattle.std.specs.Prelude.{ℕ, ◌+◌, false, List, [], ◌∷◌, None, Some}
use Rattle.block_codec.specs.declared.versions.Version.{Version}
use Rattle.pico_board.specs.declared.window.Window.{Window}
-- the crates above name the window of a start and a length from here
pub use Rattle.pico_board.specs.Examples.{window_at}
use Rattle.part_table.specs.declared.partition.Partition.{Partition}
use Rattle.part_table.specs.declared.table.Table.{Table}
use Rattle.part_table.specs.Examples.{plain_partition, sectors}
use Rattle.slot_choice.specs.declared.unit.SlotUnit.{SlotUnit}

-- a unit of two partitions, by the window and the number of each
abbrev pub pair_unit : Window → ℕ → Window → ℕ → SlotUnit
pair_unit one i two j = record { a = one; b = Some two; a_part = Some i; b_part = Some j }

-- a unit of one partition, by its window and its number
abbrev pub lone_unit : Window → ℕ → SlotUnit
lone_unit one i = record { a = one; b = None; a_part = Some i; b_part = None }

-- the unit of the pair of sectors 2 to 31 and 32 to 61
abbrev pub the_pair : SlotUnit
the_pair = pair_unit (window_at 0x2000 0x1e000) 0 (window_at 0x20000 0x1e000) 1

-- a table of these partitions: its unpartitioned sectors have all rights and take no family
abbrev pub table_without_families : List Partition → Table
table_without_families partitions = record {
  version = record { major = 0; minor = 0 };
  singleton = false;
  unpartitioned = 0xfc000000;
  parts = record { items = partitions };
}

-- three partitions without links, sectors 2 to 3, 4 to 5 and 6 to 7: the second is ignored in a
-- RISC-V boot and accepts rp2350-arm-s, the third is ignored in an Arm boot
abbrev pub three_table : Table
three_table =
    table_without_families
    (plain_partition 0xfc006002 0xfc000000 ∷ plain_partition 0xfc00a004 0xfc020400
    ∷ plain_partition 0xfc00e006 0xfc000200 ∷ [])

-- the units of those three partitions
abbrev pub unit_one : SlotUnit
unit_one = lone_unit (window_at 0x2000 0x2000) 0

abbrev pub unit_two : SlotUnit
unit_two = lone_unit (window_at 0x4000 0x2000) 1

abbrev pub unit_three : SlotUnit
unit_three = lone_unit (window_at 0x6000 0x2000) 2

-- a pair of sectors 2 to 3 and 4 to 5, with these flag words below their permissions
abbrev pub small_pair : ℕ → ℕ → Table
small_pair one two =
    table_without_families
    (plain_partition (sectors 2 3) (0xfc000000 + one)
    ∷ plain_partition (sectors 4 5) (0xfc000000 + two) ∷ [])

-- the unit of that pair of sectors 2 to 3 and 4 to 5
abbrev pub small_unit : SlotUnit
small_unit = pair_unit (window_at 0x2000 0x2000) 0 (window_at 0x4000 0x2000) 1

-- a partition that accepts one extra family
abbrev pub extra_partition : ℕ → ℕ → Partition
extra_partition at family = record {
  location = at;
  flags = 0xfc000080;
  id = None;
  families = record { items = family ∷ [] };
  name = None;
}

-- partitions of two sectors each, from sector 2 on: the first accepts rp2040, and has the bit of
-- the absolute family; the second accepts data; the third rp2350-arm-s; the fourth rp2350-arm-s
-- and rp2350-riscv; the fifth rp2350-arm-ns; and the sixth the family 0x11111111
abbrev pub family_table : Table
family_table =
    table_without_families
    (plain_partition (sectors 2 3) 0xfc00c000 ∷ plain_partition (sectors 4 5) 0xfc010000
    ∷ plain_partition (sectors 6 7) 0xfc020000
    ∷ plain_partition (sectors 8 9) 0xfc060000
    ∷ plain_partition (sectors 10 11) 0xfc080000
    ∷ extra_partition (sectors 12 13) 0x11111111 ∷ [])

-- the unit of two members of one sector that start at these offsets
abbrev pub tiny_unit : ℕ → ℕ → SlotUnit
tiny_unit one two = pair_unit (window_at one 0x1000) 0 (window_at two 0x1000) 1

-- a version of these numbers
abbrev pub version : ℕ → ℕ → Version
version high low = record { major = high; minor = low }
