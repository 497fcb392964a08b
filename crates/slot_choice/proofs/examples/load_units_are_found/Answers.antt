-- By computing.
use Rattle.std.proofs.Common.{refl}
use Rattle.slot_choice.proofs.examples.load_units_are_found.Goals as goal

pub returns-clause-arm : goal.returns-clause-arm
returns-clause-arm c = refl

pub returns-clause-riscv : goal.returns-clause-riscv
returns-clause-riscv c = refl

pub returns-clause-owned : goal.returns-clause-owned
returns-clause-owned c = refl

pub returns-clause-ignored : goal.returns-clause-ignored
returns-clause-ignored c = refl

pub returns-clause-absolute : goal.returns-clause-absolute
returns-clause-absolute c = refl

pub returns-clause-refused : goal.returns-clause-refused
returns-clause-refused c = refl
