use Rattle.std.proofs.Common.{refl}
use Rattle.svg_marks.specs.Marks.{class_text}
use Rattle.svg_marks.proofs.examples.marks_that_are_read.Goals as goal

pub returns-clause-title : goal.returns-clause-title
unfolding class_text
returns-clause-title c = refl

pub returns-clause-text : goal.returns-clause-text
unfolding class_text
returns-clause-text c = refl

pub returns-clause-lines : goal.returns-clause-lines
unfolding class_text
returns-clause-lines c = refl

pub returns-clause-inner : goal.returns-clause-inner
unfolding class_text
returns-clause-inner c = refl

pub returns-clause-nested : goal.returns-clause-nested
unfolding class_text
returns-clause-nested c = refl

pub returns-clause-other : goal.returns-clause-other
unfolding class_text
returns-clause-other c = refl

pub returns-clause-twice : goal.returns-clause-twice
unfolding class_text
returns-clause-twice c = refl

pub returns-clause-unnamed : goal.returns-clause-unnamed
unfolding class_text
returns-clause-unnamed c = refl

pub returns-clause-alone : goal.returns-clause-alone
unfolding class_text
returns-clause-alone c = refl
