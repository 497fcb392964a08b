use Rattle.std.proofs.Common.{refl}
use Rattle.svg_marks.specs.Breaks.{is_broken}
use Rattle.svg_marks.proofs.examples.broken_words.Goals as goal

pub returns-clause-whole : goal.returns-clause-whole
unfolding is_broken
returns-clause-whole c = refl

pub returns-clause-past : goal.returns-clause-past
unfolding is_broken
returns-clause-past c = refl

pub returns-clause-hanging : goal.returns-clause-hanging
unfolding is_broken
returns-clause-hanging c = refl

pub returns-clause-last_blank : goal.returns-clause-last_blank
unfolding is_broken
returns-clause-last_blank c = refl

pub returns-clause-two_blanks : goal.returns-clause-two_blanks
unfolding is_broken
returns-clause-two_blanks c = refl

pub returns-clause-longer : goal.returns-clause-longer
unfolding is_broken
returns-clause-longer c = refl

pub returns-clause-alone : goal.returns-clause-alone
unfolding is_broken
returns-clause-alone c = refl

pub returns-clause-behind : goal.returns-clause-behind
unfolding is_broken
returns-clause-behind c = refl

pub returns-clause-torn : goal.returns-clause-torn
unfolding is_broken
returns-clause-torn c = refl

pub returns-clause-none : goal.returns-clause-none
unfolding is_broken
returns-clause-none c = refl
