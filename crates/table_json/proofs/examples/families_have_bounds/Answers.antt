use Rattle.std.proofs.Common.{refl}
use Rattle.serde_json.proofs.OnLiterals.{serde_json_on_literals}
use Rattle.table_json.proofs.examples.families_have_bounds.Goals as goal

pub returns-clause-four : goal.returns-clause-four
unfolding serde_json_on_literals
returns-clause-four c = refl

pub returns-clause-past : goal.returns-clause-past
unfolding serde_json_on_literals
returns-clause-past c = refl

pub returns-clause-other : goal.returns-clause-other
unfolding serde_json_on_literals
returns-clause-other c = refl

pub returns-clause-text : goal.returns-clause-text
unfolding serde_json_on_literals
returns-clause-text c = refl

pub returns-clause-outside : goal.returns-clause-outside
unfolding serde_json_on_literals
returns-clause-outside c = refl
