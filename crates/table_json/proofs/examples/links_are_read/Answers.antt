use Rattle.std.proofs.Common.{refl}
use Rattle.serde_json.proofs.OnLiterals.{serde_json_on_literals}
use Rattle.table_json.proofs.examples.links_are_read.Goals as goal

pub returns-clause-first : goal.returns-clause-first
unfolding serde_json_on_literals
returns-clause-first c = refl

pub returns-clause-owner : goal.returns-clause-owner
unfolding serde_json_on_literals
returns-clause-owner c = refl

pub returns-clause-zero : goal.returns-clause-zero
unfolding serde_json_on_literals
returns-clause-zero c = refl

pub returns-clause-past : goal.returns-clause-past
unfolding serde_json_on_literals
returns-clause-past c = refl

pub returns-clause-word : goal.returns-clause-word
unfolding serde_json_on_literals
returns-clause-word c = refl

pub returns-clause-short : goal.returns-clause-short
unfolding serde_json_on_literals
returns-clause-short c = refl

pub returns-clause-long : goal.returns-clause-long
unfolding serde_json_on_literals
returns-clause-long c = refl

pub returns-clause-turned : goal.returns-clause-turned
unfolding serde_json_on_literals
returns-clause-turned c = refl
