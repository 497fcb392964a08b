use Rattle.std.proofs.Common.{◌≡◌, ◌≤◌, ◌+◌, ◌*◌, length, take, All}
use Rattle.std.specs.List.{flat_map}
use Rattle.part_table.specs.Written.{written_partition, IsReadablePartition}
use Rattle.part_table.proofs.writing.item_size.Given as goal

abbrev pub invariant-loop-part : goal.invariant-loop-part
invariant-loop-part l = record {
  so_far : l.size ≡ 2 + length (flat_map written_partition (take l.part-index l.table.parts.items));
  readable : All IsReadablePartition (take l.part-index l.table.parts.items);
  few : l.size ≤ 2 + 39 * l.part-index;
}
