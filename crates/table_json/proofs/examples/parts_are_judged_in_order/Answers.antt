use Rattle.std.proofs.Common.{refl}
use Rattle.serde_json.proofs.OnLiterals.{serde_json_on_literals}
use Rattle.table_json.proofs.examples.parts_are_judged_in_order.Goals as goal

pub returns-clause-no_object : goal.returns-clause-no_object
unfolding serde_json_on_literals
returns-clause-no_object c = refl

pub returns-clause-unknown : goal.returns-clause-unknown
unfolding serde_json_on_literals
returns-clause-unknown c = refl

pub returns-clause-families : goal.returns-clause-families
unfolding serde_json_on_literals
returns-clause-families c = refl

pub returns-clause-missing : goal.returns-clause-missing
unfolding serde_json_on_literals
returns-clause-missing c = refl

pub returns-clause-value : goal.returns-clause-value
unfolding serde_json_on_literals
returns-clause-value c = refl

pub returns-clause-part_part : goal.returns-clause-part_part
unfolding serde_json_on_literals
returns-clause-part_part c = refl

pub returns-clause-part_range : goal.returns-clause-part_range
unfolding serde_json_on_literals
returns-clause-part_range c = refl
