-- Partitions, tables and starts of the worked examples.
use Rattle.std.specs.Prelude.{List, Some, false}
use Rattle.pico_board.specs.declared.window.Window.{Window}
use Rattle.part_table.specs.Examples.{plain_partition, table_with}
use Rattle.part_table.specs.declared.partition.Partition.{Partition}
use Rattle.slot_choice.specs.declared.choice.Choice.{Choice}
use Rattle.slot_choice.specs.declared.unit.Member.{Member}
use Rattle.boot_rules.specs.declared.tables.Found.{Found}
use Rattle.worked_flashes.specs.Images.{image_of_version}

-- the sectors 2 to 31 with all rights, for images of Arm
abbrev pub first_part : Partition
first_part = plain_partition 0xfc03e002 0xfc020000

-- the sectors 32 to 61 with all rights, for images of Arm
abbrev pub second_part : Partition
second_part = plain_partition 0xfc07a020 0xfc020000

-- a table with these partitions, in slot 0
abbrev pub found_with_parts : List Partition → Found
found_with_parts parts = record { slot = 0; table = table_with parts }

-- the start of an image of version 1.9 in this member of a pair; the other member has this window
abbrev pub paired_start_in : Window → Member → Window → Choice
paired_start_in w member other =
    record {
      image = image_of_version w 1 9 false;
      member = member;
      other = Some other;
      updated = false;
    }
