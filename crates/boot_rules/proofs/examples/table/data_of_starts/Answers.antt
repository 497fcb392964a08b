-- By computing.
use Rattle.std.proofs.Common.{refl}
use Rattle.boot_rules.proofs.examples.table.data_of_starts.Goals as goal

pub returns-clause-first : goal.returns-clause-first
returns-clause-first c = refl

pub returns-clause-second : goal.returns-clause-second
returns-clause-second c = refl

pub returns-clause-not_owner : goal.returns-clause-not_owner
returns-clause-not_owner c = refl

pub returns-clause-other_length : goal.returns-clause-other_length
returns-clause-other_length c = refl

pub returns-clause-other_start : goal.returns-clause-other_start
returns-clause-other_start c = refl

pub returns-clause-no_first : goal.returns-clause-no_first
returns-clause-no_first c = refl

pub returns-clause-no_table : goal.returns-clause-no_table
returns-clause-no_table c = refl
