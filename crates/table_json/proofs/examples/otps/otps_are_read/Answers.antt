use Rattle.std.proofs.Common.{refl}
use Rattle.serde_json.proofs.OnLiterals.{serde_json_on_literals}
use Rattle.table_json.specs.Otps.{exponent_of}
use Rattle.table_json.proofs.examples.otps.otps_are_read.Goals as goal

pub returns-clause-none : goal.returns-clause-none
unfolding serde_json_on_literals exponent_of
returns-clause-none c = refl

pub returns-clause-all : goal.returns-clause-all
unfolding serde_json_on_literals exponent_of
returns-clause-all c = refl

pub returns-clause-repeated : goal.returns-clause-repeated
unfolding serde_json_on_literals exponent_of
returns-clause-repeated c = refl

pub returns-clause-beside_settings : goal.returns-clause-beside_settings
unfolding serde_json_on_literals exponent_of
returns-clause-beside_settings c = refl

pub returns-clause-beside_secure : goal.returns-clause-beside_secure
unfolding serde_json_on_literals exponent_of
returns-clause-beside_secure c = refl

pub returns-clause-no_secure : goal.returns-clause-no_secure
unfolding serde_json_on_literals exponent_of
returns-clause-no_secure c = refl

pub returns-clause-least_slot : goal.returns-clause-least_slot
unfolding serde_json_on_literals exponent_of
returns-clause-least_slot c = refl

pub returns-clause-second_slot : goal.returns-clause-second_slot
unfolding serde_json_on_literals exponent_of
returns-clause-second_slot c = refl

pub returns-clause-last_member : goal.returns-clause-last_member
unfolding serde_json_on_literals exponent_of
returns-clause-last_member c = refl
