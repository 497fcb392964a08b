-- By computing.
use Rattle.std.proofs.Common.{refl}
use Rattle.part_table.proofs.examples.fields_are_read.Goals as goal

pub returns-clause-first : goal.returns-clause-first
returns-clause-first c = refl

pub returns-clause-not_first : goal.returns-clause-not_first
returns-clause-not_first c = refl

pub returns-clause-last : goal.returns-clause-last
returns-clause-last c = refl

pub returns-clause-not_last : goal.returns-clause-not_last
returns-clause-not_last c = refl

pub returns-clause-permissions : goal.returns-clause-permissions
returns-clause-permissions c = refl

pub returns-clause-no_permissions : goal.returns-clause-no_permissions
returns-clause-no_permissions c = refl

pub returns-clause-id : goal.returns-clause-id
returns-clause-id c = refl

pub returns-clause-no_id : goal.returns-clause-no_id
returns-clause-no_id c = refl

pub returns-clause-kind : goal.returns-clause-kind
returns-clause-kind c = refl

pub returns-clause-no_kind : goal.returns-clause-no_kind
returns-clause-no_kind c = refl

pub returns-clause-value : goal.returns-clause-value
returns-clause-value c = refl

pub returns-clause-no_value : goal.returns-clause-no_value
returns-clause-no_value c = refl

pub returns-clause-families : goal.returns-clause-families
returns-clause-families c = refl

pub returns-clause-no_families : goal.returns-clause-no_families
returns-clause-no_families c = refl

pub returns-clause-arm : goal.returns-clause-arm
returns-clause-arm c = refl

pub returns-clause-not_arm : goal.returns-clause-not_arm
returns-clause-not_arm c = refl

pub returns-clause-riscv : goal.returns-clause-riscv
returns-clause-riscv c = refl

pub returns-clause-not_riscv : goal.returns-clause-not_riscv
returns-clause-not_riscv c = refl

pub returns-clause-name : goal.returns-clause-name
returns-clause-name c = refl

pub returns-clause-no_name : goal.returns-clause-no_name
returns-clause-no_name c = refl

pub returns-clause-staying : goal.returns-clause-staying
returns-clause-staying c = refl

pub returns-clause-not_staying : goal.returns-clause-not_staying
returns-clause-not_staying c = refl
