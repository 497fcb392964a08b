use Rattle.std.proofs.Common.{refl}
use Rattle.std.specs.Fmt.{padded_integral, digits, char_count}
use Rattle.text_lines.proofs.examples.blocks.Goals as goal

pub returns-clause-again : goal.returns-clause-again
unfolding padded_integral digits char_count
returns-clause-again c = refl

pub returns-clause-taken : goal.returns-clause-taken
unfolding padded_integral digits char_count
returns-clause-taken c = refl

pub returns-clause-stay : goal.returns-clause-stay
unfolding padded_integral digits char_count
returns-clause-stay c = λ w. refl

pub returns-clause-done : goal.returns-clause-done
unfolding padded_integral digits char_count
returns-clause-done c = λ w. refl

pub returns-clause-booted : goal.returns-clause-booted
unfolding padded_integral digits char_count
returns-clause-booted c = refl
