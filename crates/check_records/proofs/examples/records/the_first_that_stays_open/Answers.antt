use Rattle.std.proofs.Common.{refl}
use Rattle.check_records.proofs.examples.records.the_first_that_stays_open.Goals as goal

pub returns-clause-none : goal.returns-clause-none
returns-clause-none c = refl

pub returns-clause-second : goal.returns-clause-second
returns-clause-second c = refl
