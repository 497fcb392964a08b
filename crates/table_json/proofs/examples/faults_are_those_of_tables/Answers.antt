use Rattle.std.proofs.Common.{refl}
use Rattle.serde_json.proofs.OnLiterals.{serde_json_on_literals}
use Rattle.table_json.proofs.examples.faults_are_those_of_tables.Goals as goal

pub returns-clause-overlap : goal.returns-clause-overlap
unfolding serde_json_on_literals
returns-clause-overlap c = refl

pub returns-clause-low : goal.returns-clause-low
unfolding serde_json_on_literals
returns-clause-low c = refl

pub returns-clause-lowest : goal.returns-clause-lowest
unfolding serde_json_on_literals
returns-clause-lowest c = refl

pub returns-clause-high : goal.returns-clause-high
unfolding serde_json_on_literals
returns-clause-high c = refl

pub returns-clause-highest : goal.returns-clause-highest
unfolding serde_json_on_literals
returns-clause-highest c = refl

pub returns-clause-link : goal.returns-clause-link
unfolding serde_json_on_literals
returns-clause-link c = refl
