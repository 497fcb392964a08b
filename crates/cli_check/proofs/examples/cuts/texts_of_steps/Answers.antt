-- By computing.
use Rattle.std.proofs.Common.{refl}
use Rattle.std.specs.Fmt.{padded_integral, digits, char_count}
use Rattle.cli_check.proofs.examples.cuts.texts_of_steps.Goals as goal

pub returns-clause-erase : goal.returns-clause-erase
unfolding padded_integral digits char_count
returns-clause-erase c = refl

pub returns-clause-first_erase : goal.returns-clause-first_erase
unfolding padded_integral digits char_count
returns-clause-first_erase c = refl

pub returns-clause-program : goal.returns-clause-program
unfolding padded_integral digits char_count
returns-clause-program c = refl

pub returns-clause-last_program : goal.returns-clause-last_program
unfolding padded_integral digits char_count
returns-clause-last_program c = refl

pub returns-clause-low_row : goal.returns-clause-low_row
unfolding padded_integral digits char_count
returns-clause-low_row c = refl

pub returns-clause-row : goal.returns-clause-row
unfolding padded_integral digits char_count
returns-clause-row c = refl

pub returns-clause-last_row : goal.returns-clause-last_row
unfolding padded_integral digits char_count
returns-clause-last_row c = refl

pub returns-clause-longer_row : goal.returns-clause-longer_row
unfolding padded_integral digits char_count
returns-clause-longer_row c = refl

pub returns-clause-some_step : goal.returns-clause-some_step
unfolding padded_integral digits char_count
returns-clause-some_step c = refl
