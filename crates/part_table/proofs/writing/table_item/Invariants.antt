use Rattle.std.proofs.Common.{◌≡◌, ◌++◌, take}
use Rattle.std.specs.List.{flat_map}
use Rattle.part_table.specs.Written.{written_partition, table_item}
use Rattle.part_table.proofs.writing.table_item.Given as goal

abbrev pub invariant-loop-part : goal.invariant-loop-part
invariant-loop-part l =
    l.words.items ≡ take 2 (table_item l.table) ++ flat_map written_partition (take l.part-index l.table.parts.items)
