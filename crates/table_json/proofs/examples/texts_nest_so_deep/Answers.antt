use Rattle.std.proofs.Common.{refl}
use Rattle.serde_json.proofs.OnLiterals.{serde_json_on_literals}
use Rattle.table_json.proofs.examples.texts_nest_so_deep.Goals as goal

pub returns-clause-deepest : goal.returns-clause-deepest
unfolding serde_json_on_literals
returns-clause-deepest c = refl

pub returns-clause-past : goal.returns-clause-past
unfolding serde_json_on_literals
returns-clause-past c = refl
