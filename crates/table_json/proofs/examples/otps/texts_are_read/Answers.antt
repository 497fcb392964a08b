use Rattle.std.proofs.Common.{refl}
use Rattle.serde_json.proofs.OnLiterals.{serde_json_on_literals}
use Rattle.table_json.specs.Otps.{exponent_of}
use Rattle.table_json.proofs.examples.otps.texts_are_read.Goals as goal

pub returns-clause-cases : goal.returns-clause-cases
unfolding serde_json_on_literals exponent_of
returns-clause-cases c = refl

pub returns-clause-row : goal.returns-clause-row
unfolding serde_json_on_literals exponent_of
returns-clause-row c = refl

pub returns-clause-value : goal.returns-clause-value
unfolding serde_json_on_literals exponent_of
returns-clause-value c = refl

pub returns-clause-bounds : goal.returns-clause-bounds
unfolding serde_json_on_literals exponent_of
returns-clause-bounds c = refl

pub returns-clause-digits : goal.returns-clause-digits
unfolding serde_json_on_literals exponent_of
returns-clause-digits c = refl

pub returns-clause-behind_nine : goal.returns-clause-behind_nine
unfolding serde_json_on_literals exponent_of
returns-clause-behind_nine c = refl

pub returns-clause-before_zero : goal.returns-clause-before_zero
unfolding serde_json_on_literals exponent_of
returns-clause-before_zero c = refl

pub returns-clause-behind_f : goal.returns-clause-behind_f
unfolding serde_json_on_literals exponent_of
returns-clause-behind_f c = refl

pub returns-clause-behind_upper : goal.returns-clause-behind_upper
unfolding serde_json_on_literals exponent_of
returns-clause-behind_upper c = refl

pub returns-clause-before_a : goal.returns-clause-before_a
unfolding serde_json_on_literals exponent_of
returns-clause-before_a c = refl

pub returns-clause-before_upper : goal.returns-clause-before_upper
unfolding serde_json_on_literals exponent_of
returns-clause-before_upper c = refl

pub returns-clause-later_digit : goal.returns-clause-later_digit
unfolding serde_json_on_literals exponent_of
returns-clause-later_digit c = refl

pub returns-clause-six : goal.returns-clause-six
unfolding serde_json_on_literals exponent_of
returns-clause-six c = refl

pub returns-clause-seven : goal.returns-clause-seven
unfolding serde_json_on_literals exponent_of
returns-clause-seven c = refl

pub returns-clause-no_digit : goal.returns-clause-no_digit
unfolding serde_json_on_literals exponent_of
returns-clause-no_digit c = refl

pub returns-clause-empty : goal.returns-clause-empty
unfolding serde_json_on_literals exponent_of
returns-clause-empty c = refl

pub returns-clause-upper_x : goal.returns-clause-upper_x
unfolding serde_json_on_literals exponent_of
returns-clause-upper_x c = refl

pub returns-clause-bare : goal.returns-clause-bare
unfolding serde_json_on_literals exponent_of
returns-clause-bare c = refl

pub returns-clause-blank : goal.returns-clause-blank
unfolding serde_json_on_literals exponent_of
returns-clause-blank c = refl

pub returns-clause-blank_behind : goal.returns-clause-blank_behind
unfolding serde_json_on_literals exponent_of
returns-clause-blank_behind c = refl
