use Rattle.std.proofs.Common.{refl}
use Rattle.serde_json.proofs.OnLiterals.{serde_json_on_literals}
use Rattle.table_json.proofs.examples.specs_are_judged_in_order.Goals as goal

pub returns-clause-list : goal.returns-clause-list
unfolding serde_json_on_literals
returns-clause-list c = refl

pub returns-clause-unknown_processor : goal.returns-clause-unknown_processor
unfolding serde_json_on_literals
returns-clause-unknown_processor c = refl

pub returns-clause-missing_version : goal.returns-clause-missing_version
unfolding serde_json_on_literals
returns-clause-missing_version c = refl

pub returns-clause-processor_version : goal.returns-clause-processor_version
unfolding serde_json_on_literals
returns-clause-processor_version c = refl

pub returns-clause-version_rollback : goal.returns-clause-version_rollback
unfolding serde_json_on_literals
returns-clause-version_rollback c = refl

pub returns-clause-rollback_rows : goal.returns-clause-rollback_rows
unfolding serde_json_on_literals
returns-clause-rollback_rows c = refl

pub returns-clause-rows_trial : goal.returns-clause-rows_trial
unfolding serde_json_on_literals
returns-clause-rows_trial c = refl
