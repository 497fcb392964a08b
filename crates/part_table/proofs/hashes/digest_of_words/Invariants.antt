use Rattle.std.proofs.Common.{take}
use Rattle.sha2.specs.Hashers.{Holds256}
use Rattle.block_codec.specs.Blocks.{block_words}
use Rattle.block_codec.specs.Words.{bytes_of}
use Rattle.part_table.proofs.hashes.digest_of_words.Given as goal

abbrev pub invariant-loop-k : goal.invariant-loop-k
invariant-loop-k l = Holds256 l.hasher (bytes_of (take l.k (block_words l.block)))
