use Rattle.std.proofs.Common.{◌≡◌, ◌*◌, length, take}
use Rattle.block_codec.specs.Words.{bytes_of}
use Rattle.part_table.proofs.contents.bytes_of.Given as goal

abbrev pub invariant-loop-word : goal.invariant-loop-word
invariant-loop-word l = record {
  so_far : l.bytes.items ≡ bytes_of (take l.word-index l.words);
  long : length l.bytes.items ≡ 4 * l.word-index;
}
