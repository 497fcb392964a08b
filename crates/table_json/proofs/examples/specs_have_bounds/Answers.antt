use Rattle.std.proofs.Common.{refl}
use Rattle.serde_json.proofs.OnLiterals.{serde_json_on_literals}
use Rattle.table_json.proofs.examples.specs_have_bounds.Goals as goal

pub returns-clause-processor : goal.returns-clause-processor
unfolding serde_json_on_literals
returns-clause-processor c = refl

pub returns-clause-rollback : goal.returns-clause-rollback
unfolding serde_json_on_literals
returns-clause-rollback c = refl

pub returns-clause-row : goal.returns-clause-row
unfolding serde_json_on_literals
returns-clause-row c = refl

pub returns-clause-thirty_two : goal.returns-clause-thirty_two
unfolding serde_json_on_literals
returns-clause-thirty_two c = refl

pub returns-clause-thirty_three : goal.returns-clause-thirty_three
unfolding serde_json_on_literals
returns-clause-thirty_three c = refl

pub returns-clause-rows_number : goal.returns-clause-rows_number
unfolding serde_json_on_literals
returns-clause-rows_number c = refl

pub returns-clause-trial : goal.returns-clause-trial
unfolding serde_json_on_literals
returns-clause-trial c = refl
