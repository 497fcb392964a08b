use Rattle.std.proofs.Common.{◌≡◌, ◌-◌, length, drop}
use Rattle.block_codec.specs.Reading.{words_before}
use Rattle.block_codec.proofs.ItemLemmas.{later}
use Rattle.block_codec.proofs.reading.count_before.Given as goal

abbrev pub invariant-loop-at : goal.invariant-loop-at
invariant-loop-at l = words_before 0 l.words ≡ later l.at (words_before 0 (drop l.at l.words))

abbrev pub decreases-loop-at : goal.decreases-loop-at
decreases-loop-at l = length l.words - l.at
