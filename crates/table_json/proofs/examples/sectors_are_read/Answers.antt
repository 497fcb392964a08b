use Rattle.std.proofs.Common.{refl}
use Rattle.serde_json.proofs.OnLiterals.{serde_json_on_literals}
use Rattle.table_json.proofs.examples.sectors_are_read.Goals as goal

pub returns-clause-last_one : goal.returns-clause-last_one
unfolding serde_json_on_literals
returns-clause-last_one c = refl

pub returns-clause-first_past : goal.returns-clause-first_past
unfolding serde_json_on_literals
returns-clause-first_past c = refl

pub returns-clause-last_past : goal.returns-clause-last_past
unfolding serde_json_on_literals
returns-clause-last_past c = refl

pub returns-clause-none_before : goal.returns-clause-none_before
unfolding serde_json_on_literals
returns-clause-none_before c = refl
