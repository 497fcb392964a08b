-- By computing.
use Rattle.std.proofs.Common.{refl}
use Rattle.slot_choice.proofs.examples.flags_of_a_are_read.Goals as goal

pub returns-clause-arm : goal.returns-clause-arm
returns-clause-arm c = refl

pub returns-clause-riscv : goal.returns-clause-riscv
returns-clause-riscv c = refl

pub returns-clause-ignored : goal.returns-clause-ignored
returns-clause-ignored c = refl

pub returns-clause-kept : goal.returns-clause-kept
returns-clause-kept c = refl

pub returns-clause-loaded : goal.returns-clause-loaded
returns-clause-loaded c = refl

pub returns-clause-first : goal.returns-clause-first
returns-clause-first c = refl

pub returns-clause-second : goal.returns-clause-second
returns-clause-second c = refl
