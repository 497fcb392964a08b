use Rattle.std.proofs.Common.{◌≡◌, ◌+◌, length, slice_range}
use Rattle.block_codec.specs.Blocks.{block_words}
use Rattle.part_table.proofs.items.item_body.Given as goal

abbrev pub invariant-loop-k : goal.invariant-loop-k
invariant-loop-k l = record {
  so_far : l.body.items ≡ slice_range (block_words l.block) (l.item.first + 1) (l.item.first + l.k);
  long : 1 + length l.body.items ≡ l.k;
}
