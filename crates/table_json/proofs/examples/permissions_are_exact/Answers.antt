use Rattle.std.proofs.Common.{refl}
use Rattle.serde_json.proofs.OnLiterals.{serde_json_on_literals}
use Rattle.table_json.proofs.examples.permissions_are_exact.Goals as goal

pub returns-clause-turned : goal.returns-clause-turned
unfolding serde_json_on_literals
returns-clause-turned c = refl

pub returns-clause-more : goal.returns-clause-more
unfolding serde_json_on_literals
returns-clause-more c = refl

pub returns-clause-fewer : goal.returns-clause-fewer
unfolding serde_json_on_literals
returns-clause-fewer c = refl

pub returns-clause-text : goal.returns-clause-text
unfolding serde_json_on_literals
returns-clause-text c = refl

pub returns-clause-null : goal.returns-clause-null
unfolding serde_json_on_literals
returns-clause-null c = refl
