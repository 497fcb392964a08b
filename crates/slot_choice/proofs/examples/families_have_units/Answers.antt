-- By computing.
use Rattle.std.proofs.Common.{refl}
use Rattle.slot_choice.proofs.examples.families_have_units.Goals as goal

pub returns-clause-rp2040 : goal.returns-clause-rp2040
returns-clause-rp2040 c = refl

pub returns-clause-data : goal.returns-clause-data
returns-clause-data c = refl

pub returns-clause-arm_s : goal.returns-clause-arm_s
returns-clause-arm_s c = refl

pub returns-clause-riscv : goal.returns-clause-riscv
returns-clause-riscv c = refl

pub returns-clause-arm_ns : goal.returns-clause-arm_ns
returns-clause-arm_ns c = refl

pub returns-clause-extra : goal.returns-clause-extra
returns-clause-extra c = refl

pub returns-clause-absolute : goal.returns-clause-absolute
returns-clause-absolute c = refl

pub returns-clause-unknown : goal.returns-clause-unknown
returns-clause-unknown c = refl
