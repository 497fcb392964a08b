use Rattle.std.proofs.Common.{◌≡◌, ◌+◌, ◌*◌, slice_range, length}
use Rattle.block_codec.specs.Blocks.{block_words}
use Rattle.block_codec.specs.Words.{bytes_of}
use Rattle.block_codec.proofs.kinds.digest_bytes.Given as goal

abbrev pub invariant-loop-k : goal.invariant-loop-k
invariant-loop-k l = record {
  so_far : l.bytes.items ≡ bytes_of (slice_range (block_words l.block) (l.item.first + 1) (l.item.first + l.k));
  long : 4 + length l.bytes.items ≡ 4 * l.k;
}
