-- So many of the item's words stand there.
use Rattle.std.proofs.Common.{◌≡◌, ◌+◌, slice_range, length}
use Rattle.block_codec.specs.Blocks.{block_words}
use Rattle.image_pack.proofs.parts.item_words.Given as goal

abbrev pub invariant-loop-k : goal.invariant-loop-k
invariant-loop-k l = record {
  so_far : l.words.items ≡ slice_range (block_words l.block) l.item.first (l.item.first + l.k);
  long : length l.words.items ≡ l.k;
}
