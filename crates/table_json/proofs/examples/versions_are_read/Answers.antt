use Rattle.std.proofs.Common.{refl}
use Rattle.serde_json.proofs.OnLiterals.{serde_json_on_literals}
use Rattle.table_json.proofs.examples.versions_are_read.Goals as goal

pub returns-clause-greatest : goal.returns-clause-greatest
unfolding serde_json_on_literals
returns-clause-greatest c = refl

pub returns-clause-major_first : goal.returns-clause-major_first
unfolding serde_json_on_literals
returns-clause-major_first c = refl

pub returns-clause-major_past : goal.returns-clause-major_past
unfolding serde_json_on_literals
returns-clause-major_past c = refl

pub returns-clause-minor_past : goal.returns-clause-minor_past
unfolding serde_json_on_literals
returns-clause-minor_past c = refl

pub returns-clause-short : goal.returns-clause-short
unfolding serde_json_on_literals
returns-clause-short c = refl

pub returns-clause-long : goal.returns-clause-long
unfolding serde_json_on_literals
returns-clause-long c = refl

pub returns-clause-text : goal.returns-clause-text
unfolding serde_json_on_literals
returns-clause-text c = refl
