use Rattle.std.proofs.Common.{refl}
use Rattle.svg_marks.specs.Marks.{escaped_byte}
use Rattle.svg_marks.proofs.examples.texts_in_a_file.Goals as goal

pub returns-clause-names : goal.returns-clause-names
unfolding escaped_byte
returns-clause-names c = refl

pub returns-clause-again : goal.returns-clause-again
unfolding escaped_byte
returns-clause-again c = refl
