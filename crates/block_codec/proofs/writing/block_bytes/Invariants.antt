use Rattle.std.proofs.Common.{◌≡◌, ◌+◌, ◌*◌, ◌++◌, length, take}
use Rattle.block_codec.specs.Words.{word_bytes, bytes_of}
use Rattle.block_codec.specs.Blocks.{start_word}
use Rattle.block_codec.proofs.writing.block_bytes.Given as goal

abbrev pub invariant-loop-word : goal.invariant-loop-word
invariant-loop-word l = record {
  written : l.bytes.items ≡ word_bytes start_word ++ bytes_of (take l.word-index l.items);
  long : length l.bytes.items ≡ 4 * l.word-index + 4;
}
