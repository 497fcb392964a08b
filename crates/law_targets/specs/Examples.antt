-- Worked examples of targets and boot members: flashes of 24 KiB with a table of one or two
-- partitions.
use Rattle.std.specs.Prelude.{ℕ, ◌+◌, [], ◌∷◌}
use Rattle.pico_board.specs.Content.{Content}
use Rattle.part_table.specs.declared.table.Table.{Table}
use Rattle.worked_flashes.specs.Tables.{one_part, plain_partition, sectors, two_parts}
use Rattle.part_table.specs.Examples.{table_with}
use Rattle.worked_flashes.specs.Flashes.{framed, region, tables_content}

-- a pair that accepts rp2350-arm-s, sectors 2 to 3 and 4 to 5; A and B also have these flags
abbrev pub pair_flash : ℕ → ℕ → Content
pair_flash one two =
    tables_content 0
    (region 0x1000
    (framed (two_parts (sectors 2 3) (0xfc020000 + one) (sectors 4 5) (0xfc020002 + two)) 0))
    (region 0x1000 [])

-- the table of the flash above
abbrev pub flags_table : ℕ → ℕ → Table
flags_table one two =
    table_with
    (plain_partition (sectors 2 3) (0xfc020000 + one)
    ∷ plain_partition (sectors 4 5) (0xfc020002 + two) ∷ [])

-- a partition alone that accepts rp2350-arm-s, sectors 2 to 3
abbrev pub lone_flash : Content
lone_flash =
    tables_content 0 (region 0x1000 (framed (one_part (sectors 2 3) 0xfc020000) 0))
    (region 0x1000 [])

-- the table of the flash above
abbrev pub lone_target_table : Table
lone_target_table = table_with (plain_partition (sectors 2 3) 0xfc020000 ∷ [])
