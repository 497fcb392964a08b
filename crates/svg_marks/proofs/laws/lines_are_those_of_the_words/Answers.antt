use Rattle.std.proofs.Common.{false}
use Rattle.svg_marks.proofs.BreakLemmas.{are-lines, joined-from, some-lines}
use Rattle.svg_marks.proofs.laws.lines_are_those_of_the_words.Goals as goal

pub returns-clause-words : goal.returns-clause-words
returns-clause-words c = joined-from 0 false

pub returns-clause-lines : goal.returns-clause-lines
returns-clause-lines c = are-lines

pub returns-clause-some : goal.returns-clause-some
returns-clause-some c = some-lines 0 false
