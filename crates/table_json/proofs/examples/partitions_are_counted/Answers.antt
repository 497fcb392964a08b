use Rattle.std.proofs.Common.{refl}
use Rattle.serde_json.proofs.OnLiterals.{serde_json_on_literals}
use Rattle.table_json.proofs.examples.partitions_are_counted.Goals as goal

pub returns-clause-fifteen : goal.returns-clause-fifteen
unfolding serde_json_on_literals
returns-clause-fifteen c = refl

pub returns-clause-sixteen : goal.returns-clause-sixteen
unfolding serde_json_on_literals
returns-clause-sixteen c = refl

pub returns-clause-second : goal.returns-clause-second
unfolding serde_json_on_literals
returns-clause-second c = refl
