-- So many words were fed.
use Rattle.std.proofs.Common.{ℕ, List, ◌++◌, take}
use Rattle.sha2.specs.Hashers.{Holds256}
use Rattle.block_codec.specs.Words.{bytes_of}
use Rattle.image_pack.proofs.text.add_words.Given as goal

abbrev pub invariant-loop-word : goal.invariant-loop-word
invariant-loop-word l = (m : List ℕ) → Holds256 l.fn.hasher m
    → Holds256 l.hasher (m ++ bytes_of (take l.word-index l.words))
