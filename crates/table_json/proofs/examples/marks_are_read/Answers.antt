use Rattle.std.proofs.Common.{refl}
use Rattle.serde_json.proofs.OnLiterals.{serde_json_on_literals}
use Rattle.table_json.proofs.examples.marks_are_read.Goals as goal

pub returns-clause-arm : goal.returns-clause-arm
unfolding serde_json_on_literals
returns-clause-arm c = refl

pub returns-clause-riscv : goal.returns-clause-riscv
unfolding serde_json_on_literals
returns-clause-riscv c = refl

pub returns-clause-stays : goal.returns-clause-stays
unfolding serde_json_on_literals
returns-clause-stays c = refl

pub returns-clause-none : goal.returns-clause-none
unfolding serde_json_on_literals
returns-clause-none c = refl

pub returns-clause-number : goal.returns-clause-number
unfolding serde_json_on_literals
returns-clause-number c = refl
