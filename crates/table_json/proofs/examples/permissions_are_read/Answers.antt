use Rattle.std.proofs.Common.{refl}
use Rattle.serde_json.proofs.OnLiterals.{serde_json_on_literals}
use Rattle.table_json.proofs.examples.permissions_are_read.Goals as goal

pub returns-clause-none : goal.returns-clause-none
unfolding serde_json_on_literals
returns-clause-none c = refl

pub returns-clause-secure_read : goal.returns-clause-secure_read
unfolding serde_json_on_literals
returns-clause-secure_read c = refl

pub returns-clause-secure_write : goal.returns-clause-secure_write
unfolding serde_json_on_literals
returns-clause-secure_write c = refl

pub returns-clause-nonsecure_read : goal.returns-clause-nonsecure_read
unfolding serde_json_on_literals
returns-clause-nonsecure_read c = refl

pub returns-clause-nonsecure_write : goal.returns-clause-nonsecure_write
unfolding serde_json_on_literals
returns-clause-nonsecure_write c = refl

pub returns-clause-boot_read : goal.returns-clause-boot_read
unfolding serde_json_on_literals
returns-clause-boot_read c = refl

pub returns-clause-boot_write : goal.returns-clause-boot_write
unfolding serde_json_on_literals
returns-clause-boot_write c = refl

pub returns-clause-all : goal.returns-clause-all
unfolding serde_json_on_literals
returns-clause-all c = refl
