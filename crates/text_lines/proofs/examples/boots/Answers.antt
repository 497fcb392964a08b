use Rattle.std.proofs.Common.{refl}
use Rattle.std.specs.Fmt.{padded_integral, digits, char_count}
use Rattle.text_lines.proofs.examples.boots.Goals as goal

pub returns-clause-start : goal.returns-clause-start
unfolding padded_integral digits char_count
returns-clause-start c = refl

pub returns-clause-trial : goal.returns-clause-trial
unfolding padded_integral digits char_count
returns-clause-trial c = refl
