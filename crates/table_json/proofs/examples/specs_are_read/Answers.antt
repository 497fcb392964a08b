use Rattle.std.proofs.Common.{refl}
use Rattle.serde_json.proofs.OnLiterals.{serde_json_on_literals}
use Rattle.table_json.proofs.examples.specs_are_read.Goals as goal

pub returns-clause-least : goal.returns-clause-least
unfolding serde_json_on_literals
returns-clause-least c = refl

pub returns-clause-riscv : goal.returns-clause-riscv
unfolding serde_json_on_literals
returns-clause-riscv c = refl

pub returns-clause-version : goal.returns-clause-version
unfolding serde_json_on_literals
returns-clause-version c = refl

pub returns-clause-trial : goal.returns-clause-trial
unfolding serde_json_on_literals
returns-clause-trial c = refl

pub returns-clause-rollback : goal.returns-clause-rollback
unfolding serde_json_on_literals
returns-clause-rollback c = refl

pub returns-clause-rows : goal.returns-clause-rows
unfolding serde_json_on_literals
returns-clause-rows c = refl

pub returns-clause-last_of_two : goal.returns-clause-last_of_two
unfolding serde_json_on_literals
returns-clause-last_of_two c = refl
