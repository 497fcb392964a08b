-- So many words were appended.
use Rattle.std.proofs.Common.{◌≡◌, ◌+◌, ◌*◌, ◌++◌, length, take}
use Rattle.block_codec.specs.Words.{bytes_of}
use Rattle.image_pack.proofs.text.put_words.Given as goal

abbrev pub invariant-loop-word : goal.invariant-loop-word
invariant-loop-word l = record {
  so_far : l.out.items ≡ l.fn.out.items ++ bytes_of (take l.word-index l.words);
  long : length l.out.items ≡ length l.fn.out.items + 4 * l.word-index;
}
