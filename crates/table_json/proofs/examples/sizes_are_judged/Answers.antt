use Rattle.std.proofs.Common.{refl}
use Rattle.serde_json.proofs.OnLiterals.{serde_json_on_literals}
use Rattle.table_json.proofs.examples.sizes_are_judged.Goals as goal

pub returns-clause-fits : goal.returns-clause-fits
unfolding serde_json_on_literals
returns-clause-fits c = refl

pub returns-clause-too_long : goal.returns-clause-too_long
unfolding serde_json_on_literals
returns-clause-too_long c = refl
