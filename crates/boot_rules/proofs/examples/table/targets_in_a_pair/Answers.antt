-- By computing.
use Rattle.std.proofs.Common.{refl}
use Rattle.boot_rules.proofs.examples.table.targets_in_a_pair.Goals as goal

pub returns-clause-first : goal.returns-clause-first
returns-clause-first c = refl

pub returns-clause-second : goal.returns-clause-second
returns-clause-second c = refl

pub returns-clause-data : goal.returns-clause-data
returns-clause-data c = refl

pub returns-clause-data_second : goal.returns-clause-data_second
returns-clause-data_second c = refl

pub returns-clause-slots : goal.returns-clause-slots
returns-clause-slots c = refl
