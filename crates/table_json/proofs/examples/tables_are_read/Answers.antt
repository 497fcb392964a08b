use Rattle.std.proofs.Common.{refl}
use Rattle.serde_json.proofs.OnLiterals.{serde_json_on_literals}
use Rattle.table_json.proofs.examples.tables_are_read.Goals as goal

pub returns-clause-pair : goal.returns-clause-pair
unfolding serde_json_on_literals
returns-clause-pair c = refl

pub returns-clause-owners : goal.returns-clause-owners
unfolding serde_json_on_literals
returns-clause-owners c = refl

pub returns-clause-named : goal.returns-clause-named
unfolding serde_json_on_literals
returns-clause-named c = refl

pub returns-clause-empty : goal.returns-clause-empty
unfolding serde_json_on_literals
returns-clause-empty c = refl
