-- By computing.
use Rattle.std.proofs.Common.{refl}
use Rattle.part_table.proofs.examples.families_are_read.Goals as goal

pub returns-clause-rp2040 : goal.returns-clause-rp2040
returns-clause-rp2040 c = refl

pub returns-clause-absolute : goal.returns-clause-absolute
returns-clause-absolute c = refl

pub returns-clause-of_data : goal.returns-clause-of_data
returns-clause-of_data c = refl

pub returns-clause-arm_s : goal.returns-clause-arm_s
returns-clause-arm_s c = refl

pub returns-clause-riscv : goal.returns-clause-riscv
returns-clause-riscv c = refl

pub returns-clause-arm_ns : goal.returns-clause-arm_ns
returns-clause-arm_ns c = refl

pub returns-clause-below : goal.returns-clause-below
returns-clause-below c = refl

pub returns-clause-above : goal.returns-clause-above
returns-clause-above c = refl

pub returns-clause-others : goal.returns-clause-others
returns-clause-others c = refl

pub returns-clause-no_absolute : goal.returns-clause-no_absolute
returns-clause-no_absolute c = refl

pub returns-clause-no_data : goal.returns-clause-no_data
returns-clause-no_data c = refl

pub returns-clause-no_arm_s : goal.returns-clause-no_arm_s
returns-clause-no_arm_s c = refl

pub returns-clause-no_riscv : goal.returns-clause-no_riscv
returns-clause-no_riscv c = refl

pub returns-clause-no_arm_ns : goal.returns-clause-no_arm_ns
returns-clause-no_arm_ns c = refl

pub returns-clause-unpartitioned : goal.returns-clause-unpartitioned
returns-clause-unpartitioned c = refl

pub returns-clause-only : goal.returns-clause-only
returns-clause-only c = refl

pub returns-clause-alone : goal.returns-clause-alone
returns-clause-alone c = refl
