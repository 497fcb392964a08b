use Rattle.std.proofs.Common.{refl}
use Rattle.serde_json.proofs.OnLiterals.{serde_json_on_literals}
use Rattle.table_json.proofs.examples.partitions_are_judged_in_order.Goals as goal

pub returns-clause-list : goal.returns-clause-list
unfolding serde_json_on_literals
returns-clause-list c = refl

pub returns-clause-unknown_first : goal.returns-clause-unknown_first
unfolding serde_json_on_literals
returns-clause-unknown_first c = refl

pub returns-clause-first_last : goal.returns-clause-first_last
unfolding serde_json_on_literals
returns-clause-first_last c = refl

pub returns-clause-first_value : goal.returns-clause-first_value
unfolding serde_json_on_literals
returns-clause-first_value c = refl

pub returns-clause-last_families : goal.returns-clause-last_families
unfolding serde_json_on_literals
returns-clause-last_families c = refl

pub returns-clause-families_permissions : goal.returns-clause-families_permissions
unfolding serde_json_on_literals
returns-clause-families_permissions c = refl

pub returns-clause-permissions_id : goal.returns-clause-permissions_id
unfolding serde_json_on_literals
returns-clause-permissions_id c = refl

pub returns-clause-id_name : goal.returns-clause-id_name
unfolding serde_json_on_literals
returns-clause-id_name c = refl

pub returns-clause-name_link : goal.returns-clause-name_link
unfolding serde_json_on_literals
returns-clause-name_link c = refl

pub returns-clause-link_arm : goal.returns-clause-link_arm
unfolding serde_json_on_literals
returns-clause-link_arm c = refl

pub returns-clause-arm_riscv : goal.returns-clause-arm_riscv
unfolding serde_json_on_literals
returns-clause-arm_riscv c = refl

pub returns-clause-riscv_stays : goal.returns-clause-riscv_stays
unfolding serde_json_on_literals
returns-clause-riscv_stays c = refl

pub returns-clause-stays : goal.returns-clause-stays
unfolding serde_json_on_literals
returns-clause-stays c = refl
