use Rattle.std.proofs.Common.{◌≡◌, take}
use Rattle.block_codec.specs.Words.{words_of}
use Rattle.block_codec.proofs.reading.front_words.Given as goal

abbrev pub invariant-loop-k : goal.invariant-loop-k
invariant-loop-k l = l.words.items ≡ take l.k (words_of l.piece)
