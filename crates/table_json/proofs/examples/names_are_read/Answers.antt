use Rattle.std.proofs.Common.{refl}
use Rattle.serde_json.proofs.OnLiterals.{serde_json_on_literals}
use Rattle.table_json.proofs.examples.names_are_read.Goals as goal

pub returns-clause-empty : goal.returns-clause-empty
unfolding serde_json_on_literals
returns-clause-empty c = refl

pub returns-clause-longest : goal.returns-clause-longest
unfolding serde_json_on_literals
returns-clause-longest c = refl

pub returns-clause-past : goal.returns-clause-past
unfolding serde_json_on_literals
returns-clause-past c = refl

pub returns-clause-number : goal.returns-clause-number
unfolding serde_json_on_literals
returns-clause-number c = refl
