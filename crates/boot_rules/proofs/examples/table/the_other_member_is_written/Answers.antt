-- By computing.
use Rattle.std.proofs.Common.{refl}
use Rattle.boot_rules.proofs.examples.table.the_other_member_is_written.Goals as goal

pub returns-clause-first : goal.returns-clause-first
returns-clause-first c = refl

pub returns-clause-second : goal.returns-clause-second
returns-clause-second c = refl

pub returns-clause-none : goal.returns-clause-none
returns-clause-none c = refl
