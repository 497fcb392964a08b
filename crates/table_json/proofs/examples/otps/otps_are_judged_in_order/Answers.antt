use Rattle.std.proofs.Common.{refl}
use Rattle.serde_json.proofs.OnLiterals.{serde_json_on_literals}
use Rattle.table_json.specs.Otps.{exponent_of}
use Rattle.table_json.proofs.examples.otps.otps_are_judged_in_order.Goals as goal

pub returns-clause-list : goal.returns-clause-list
unfolding serde_json_on_literals exponent_of
returns-clause-list c = refl

pub returns-clause-unknown_required : goal.returns-clause-unknown_required
unfolding serde_json_on_literals exponent_of
returns-clause-unknown_required c = refl

pub returns-clause-required_off : goal.returns-clause-required_off
unfolding serde_json_on_literals exponent_of
returns-clause-required_off c = refl

pub returns-clause-off_size : goal.returns-clause-off_size
unfolding serde_json_on_literals exponent_of
returns-clause-off_size c = refl

pub returns-clause-size_rows : goal.returns-clause-size_rows
unfolding serde_json_on_literals exponent_of
returns-clause-size_rows c = refl

pub returns-clause-rows_secure : goal.returns-clause-rows_secure
unfolding serde_json_on_literals exponent_of
returns-clause-rows_secure c = refl

pub returns-clause-unknown_secure : goal.returns-clause-unknown_secure
unfolding serde_json_on_literals exponent_of
returns-clause-unknown_secure c = refl
