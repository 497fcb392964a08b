-- By computing.
use Rattle.std.proofs.Common.{refl}
use Rattle.std.specs.Fmt.{padded_integral, digits, char_count}
use Rattle.cli_check.proofs.examples.cuts.texts_of_lines.Goals as goal

pub returns-clause-former : goal.returns-clause-former
unfolding padded_integral digits char_count
returns-clause-former c = refl

pub returns-clause-bootsel : goal.returns-clause-bootsel
unfolding padded_integral digits char_count
returns-clause-bootsel c = refl

pub returns-clause-finished : goal.returns-clause-finished
unfolding padded_integral digits char_count
returns-clause-finished c = refl

pub returns-clause-end : goal.returns-clause-end
unfolding padded_integral digits char_count
returns-clause-end c = refl

pub returns-clause-no_steps : goal.returns-clause-no_steps
unfolding padded_integral digits char_count
returns-clause-no_steps c = refl

pub returns-clause-whole : goal.returns-clause-whole
unfolding padded_integral digits char_count
returns-clause-whole c = refl
