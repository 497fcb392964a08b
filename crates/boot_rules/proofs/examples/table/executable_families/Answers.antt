-- By computing.
use Rattle.std.proofs.Common.{refl}
use Rattle.boot_rules.proofs.examples.table.executable_families.Goals as goal

pub returns-clause-data : goal.returns-clause-data
returns-clause-data c = refl

pub returns-clause-arm_s : goal.returns-clause-arm_s
returns-clause-arm_s c = refl

pub returns-clause-riscv : goal.returns-clause-riscv
returns-clause-riscv c = refl

pub returns-clause-arm_ns : goal.returns-clause-arm_ns
returns-clause-arm_ns c = refl

pub returns-clause-next : goal.returns-clause-next
returns-clause-next c = refl

pub returns-clause-absolute : goal.returns-clause-absolute
returns-clause-absolute c = refl

pub returns-clause-rp2040 : goal.returns-clause-rp2040
returns-clause-rp2040 c = refl

pub returns-clause-zero_family : goal.returns-clause-zero_family
returns-clause-zero_family c = refl
