use Rattle.std.proofs.Common.{◌≡◌, ◌≤◌, length, take}
use Rattle.block_codec.specs.Items.{items_of}
use Rattle.block_codec.specs.Kinds.{items_of_kind}
use Rattle.part_table.proofs.items.is_repeated.Given as goal

abbrev pub invariant-loop-i : goal.invariant-loop-i
invariant-loop-i l = record {
  so_far : l.count ≡ length (items_of_kind l.kind (take l.i (items_of l.block.items)));
  few : l.count ≤ l.i;
}
