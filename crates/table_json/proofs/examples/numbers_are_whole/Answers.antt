use Rattle.std.proofs.Common.{refl}
use Rattle.serde_json.proofs.OnLiterals.{serde_json_on_literals}
use Rattle.table_json.proofs.examples.numbers_are_whole.Goals as goal

pub returns-clause-point : goal.returns-clause-point
unfolding serde_json_on_literals
returns-clause-point c = refl

pub returns-clause-sign : goal.returns-clause-sign
unfolding serde_json_on_literals
returns-clause-sign c = refl

pub returns-clause-minus_zero : goal.returns-clause-minus_zero
unfolding serde_json_on_literals
returns-clause-minus_zero c = refl

pub returns-clause-exponent : goal.returns-clause-exponent
unfolding serde_json_on_literals
returns-clause-exponent c = refl

pub returns-clause-text : goal.returns-clause-text
unfolding serde_json_on_literals
returns-clause-text c = refl

pub returns-clause-null : goal.returns-clause-null
unfolding serde_json_on_literals
returns-clause-null c = refl
