-- By computing.
use Rattle.std.proofs.Common.{refl}
use Rattle.std.specs.Fmt.{padded_integral, digits, char_count}
use Rattle.cli_check.proofs.examples.cuts.texts_of_cuts.Goals as goal

pub returns-clause-first : goal.returns-clause-first
unfolding padded_integral digits char_count
returns-clause-first c = refl

pub returns-clause-second : goal.returns-clause-second
unfolding padded_integral digits char_count
returns-clause-second c = refl

pub returns-clause-third : goal.returns-clause-third
unfolding padded_integral digits char_count
returns-clause-third c = refl

pub returns-clause-last : goal.returns-clause-last
unfolding padded_integral digits char_count
returns-clause-last c = refl
