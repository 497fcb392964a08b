-- By computing.
use Rattle.std.proofs.Common.{refl}
use Rattle.boot_rules.proofs.examples.table.partitions_that_stay.Goals as goal

pub returns-clause-other : goal.returns-clause-other
returns-clause-other c = refl

pub returns-clause-staying : goal.returns-clause-staying
returns-clause-staying c = refl

pub returns-clause-staying_second : goal.returns-clause-staying_second
returns-clause-staying_second c = refl

pub returns-clause-other_second : goal.returns-clause-other_second
returns-clause-other_second c = refl

pub returns-clause-no_partition : goal.returns-clause-no_partition
returns-clause-no_partition c = refl

pub returns-clause-no_table : goal.returns-clause-no_table
returns-clause-no_table c = refl

pub returns-clause-nothing : goal.returns-clause-nothing
returns-clause-nothing c = refl
