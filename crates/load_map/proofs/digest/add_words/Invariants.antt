use Rattle.std.proofs.Common.{ℕ, List, ◌++◌, take}
use Rattle.sha2.specs.Hashers.{Holds256}
use Rattle.block_codec.specs.Blocks.{block_words}
use Rattle.block_codec.specs.Words.{bytes_of}
use Rattle.load_map.specs.Covered.{masked_words}
use Rattle.load_map.proofs.digest.add_words.Given as goal

abbrev pub invariant-loop-k : goal.invariant-loop-k
invariant-loop-k l = (m : List ℕ) → Holds256 l.fn.hasher m
    → Holds256 l.hasher (m ++ bytes_of (take l.k (masked_words (block_words l.block) l.image_word)))
