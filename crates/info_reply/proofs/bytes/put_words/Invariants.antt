-- The words so far are appended.
use Rattle.std.proofs.Common.{◌≡◌, ◌+◌, ◌*◌, ◌++◌, length, take}
use Rattle.block_codec.specs.Words.{bytes_of}
use Rattle.info_reply.proofs.bytes.put_words.Given as goal

abbrev pub invariant-loop-word : goal.invariant-loop-word
invariant-loop-word l = record {
  so_far : l.bytes.items ≡ l.fn.bytes.items ++ bytes_of (take l.word-index l.words);
  long : length l.bytes.items ≡ length l.fn.bytes.items + 4 * l.word-index;
}
