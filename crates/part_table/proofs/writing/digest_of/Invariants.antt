use Rattle.std.proofs.Common.{◌++◌, take}
use Rattle.sha2.specs.Hashers.{Holds256}
use Rattle.block_codec.specs.Blocks.{start_word}
use Rattle.block_codec.specs.Words.{bytes_of, word_bytes}
use Rattle.part_table.proofs.writing.digest_of.Given as goal

abbrev pub invariant-loop-word : goal.invariant-loop-word
invariant-loop-word l = Holds256 l.hasher (word_bytes start_word ++ bytes_of (take l.word-index l.words))
