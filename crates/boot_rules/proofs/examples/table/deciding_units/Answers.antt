-- By computing.
use Rattle.std.proofs.Common.{refl}
use Rattle.boot_rules.proofs.examples.table.deciding_units.Goals as goal

pub returns-clause-owned : goal.returns-clause-owned
returns-clause-owned c = refl

pub returns-clause-owned_alone : goal.returns-clause-owned_alone
returns-clause-owned_alone c = refl

pub returns-clause-image : goal.returns-clause-image
returns-clause-image c = refl

pub returns-clause-whole : goal.returns-clause-whole
returns-clause-whole c = refl

pub returns-clause-without_table : goal.returns-clause-without_table
returns-clause-without_table c = refl

pub returns-clause-slots : goal.returns-clause-slots
returns-clause-slots c = refl
