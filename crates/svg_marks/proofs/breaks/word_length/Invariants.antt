use Rattle.std.proofs.Common.{◌≡◌, ◌+◌, drop}
use Rattle.svg_marks.specs.Breaks.{word_length}
use Rattle.svg_marks.proofs.breaks.word_length.Given as goal

abbrev pub invariant-loop-count : goal.invariant-loop-count
invariant-loop-count l = l.count + word_length (drop l.count l.bytes) ≡ word_length l.bytes
