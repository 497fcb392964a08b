use Rattle.std.proofs.Common.{refl}
use Rattle.std.specs.Fmt.{padded_integral, digits, char_count}
use Rattle.cli_explain.proofs.examples.lines_of_units.Goals as goal

pub returns-clause-parts : goal.returns-clause-parts
unfolding padded_integral digits char_count
returns-clause-parts c = refl

pub returns-clause-slots : goal.returns-clause-slots
unfolding padded_integral digits char_count
returns-clause-slots c = refl
