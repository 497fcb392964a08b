use Rattle.std.proofs.Common.{refl}
use Rattle.serde_json.proofs.OnLiterals.{serde_json_on_literals}
use Rattle.table_json.proofs.examples.ids_are_read.Goals as goal

pub returns-clause-greatest : goal.returns-clause-greatest
unfolding serde_json_on_literals
returns-clause-greatest c = refl

pub returns-clause-zero : goal.returns-clause-zero
unfolding serde_json_on_literals
returns-clause-zero c = refl

pub returns-clause-past : goal.returns-clause-past
unfolding serde_json_on_literals
returns-clause-past c = refl
