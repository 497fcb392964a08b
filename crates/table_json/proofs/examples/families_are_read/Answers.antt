use Rattle.std.proofs.Common.{refl}
use Rattle.serde_json.proofs.OnLiterals.{serde_json_on_literals}
use Rattle.table_json.proofs.examples.families_are_read.Goals as goal

pub returns-clause-rp2040 : goal.returns-clause-rp2040
unfolding serde_json_on_literals
returns-clause-rp2040 c = refl

pub returns-clause-absolute : goal.returns-clause-absolute
unfolding serde_json_on_literals
returns-clause-absolute c = refl

pub returns-clause-data : goal.returns-clause-data
unfolding serde_json_on_literals
returns-clause-data c = refl

pub returns-clause-rp2350_arm_s : goal.returns-clause-rp2350_arm_s
unfolding serde_json_on_literals
returns-clause-rp2350_arm_s c = refl

pub returns-clause-rp2350_riscv : goal.returns-clause-rp2350_riscv
unfolding serde_json_on_literals
returns-clause-rp2350_riscv c = refl

pub returns-clause-rp2350_arm_ns : goal.returns-clause-rp2350_arm_ns
unfolding serde_json_on_literals
returns-clause-rp2350_arm_ns c = refl

pub returns-clause-twice : goal.returns-clause-twice
unfolding serde_json_on_literals
returns-clause-twice c = refl

pub returns-clause-three : goal.returns-clause-three
unfolding serde_json_on_literals
returns-clause-three c = refl

pub returns-clause-mixed : goal.returns-clause-mixed
unfolding serde_json_on_literals
returns-clause-mixed c = refl
