-- So many words were appended.
use Rattle.std.proofs.Common.{◌≡◌, ◌+◌, ◌++◌, length, take}
use Rattle.block_codec.specs.Words.{words_of}
use Rattle.image_pack.proofs.text.put_bytes.Given as goal

abbrev pub invariant-loop-k : goal.invariant-loop-k
invariant-loop-k l = record {
  so_far : l.words.items ≡ l.fn.words.items ++ take l.k (words_of l.bytes);
  long : length l.words.items ≡ length l.fn.words.items + l.k;
}
