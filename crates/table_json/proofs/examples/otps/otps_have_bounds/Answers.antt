use Rattle.std.proofs.Common.{refl}
use Rattle.serde_json.proofs.OnLiterals.{serde_json_on_literals}
use Rattle.table_json.specs.Otps.{exponent_of}
use Rattle.table_json.proofs.examples.otps.otps_have_bounds.Goals as goal

pub returns-clause-number : goal.returns-clause-number
unfolding serde_json_on_literals exponent_of
returns-clause-number c = refl

pub returns-clause-text : goal.returns-clause-text
unfolding serde_json_on_literals exponent_of
returns-clause-text c = refl

pub returns-clause-null : goal.returns-clause-null
unfolding serde_json_on_literals exponent_of
returns-clause-null c = refl

pub returns-clause-small_slot : goal.returns-clause-small_slot
unfolding serde_json_on_literals exponent_of
returns-clause-small_slot c = refl

pub returns-clause-odd_slot : goal.returns-clause-odd_slot
unfolding serde_json_on_literals exponent_of
returns-clause-odd_slot c = refl

pub returns-clause-past_slot : goal.returns-clause-past_slot
unfolding serde_json_on_literals exponent_of
returns-clause-past_slot c = refl

pub returns-clause-no_slot : goal.returns-clause-no_slot
unfolding serde_json_on_literals exponent_of
returns-clause-no_slot c = refl

pub returns-clause-part_slot : goal.returns-clause-part_slot
unfolding serde_json_on_literals exponent_of
returns-clause-part_slot c = refl

pub returns-clause-no_list : goal.returns-clause-no_list
unfolding serde_json_on_literals exponent_of
returns-clause-no_list c = refl

pub returns-clause-no_pair : goal.returns-clause-no_pair
unfolding serde_json_on_literals exponent_of
returns-clause-no_pair c = refl

pub returns-clause-one : goal.returns-clause-one
unfolding serde_json_on_literals exponent_of
returns-clause-one c = refl

pub returns-clause-three : goal.returns-clause-three
unfolding serde_json_on_literals exponent_of
returns-clause-three c = refl

pub returns-clause-row_of_flags : goal.returns-clause-row_of_flags
unfolding serde_json_on_literals exponent_of
returns-clause-row_of_flags c = refl

pub returns-clause-row_of_size : goal.returns-clause-row_of_size
unfolding serde_json_on_literals exponent_of
returns-clause-row_of_size c = refl

pub returns-clause-text_of_flags : goal.returns-clause-text_of_flags
unfolding serde_json_on_literals exponent_of
returns-clause-text_of_flags c = refl

pub returns-clause-text_of_size : goal.returns-clause-text_of_size
unfolding serde_json_on_literals exponent_of
returns-clause-text_of_size c = refl

pub returns-clause-high_row : goal.returns-clause-high_row
unfolding serde_json_on_literals exponent_of
returns-clause-high_row c = refl

pub returns-clause-high_text : goal.returns-clause-high_text
unfolding serde_json_on_literals exponent_of
returns-clause-high_text c = refl

pub returns-clause-long_row : goal.returns-clause-long_row
unfolding serde_json_on_literals exponent_of
returns-clause-long_row c = refl

pub returns-clause-long_value : goal.returns-clause-long_value
unfolding serde_json_on_literals exponent_of
returns-clause-long_value c = refl

pub returns-clause-no_digits : goal.returns-clause-no_digits
unfolding serde_json_on_literals exponent_of
returns-clause-no_digits c = refl

pub returns-clause-truth_row : goal.returns-clause-truth_row
unfolding serde_json_on_literals exponent_of
returns-clause-truth_row c = refl

pub returns-clause-secure_number : goal.returns-clause-secure_number
unfolding serde_json_on_literals exponent_of
returns-clause-secure_number c = refl

pub returns-clause-secure_text : goal.returns-clause-secure_text
unfolding serde_json_on_literals exponent_of
returns-clause-secure_text c = refl

pub returns-clause-text_slot : goal.returns-clause-text_slot
unfolding serde_json_on_literals exponent_of
returns-clause-text_slot c = refl

pub returns-clause-wide : goal.returns-clause-wide
unfolding serde_json_on_literals exponent_of
returns-clause-wide c = refl

pub returns-clause-later : goal.returns-clause-later
unfolding serde_json_on_literals exponent_of
returns-clause-later c = refl
