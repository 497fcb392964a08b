-- By computing.
use Rattle.std.proofs.Common.{refl}
use Rattle.law_caveats.proofs.examples.slots_beside_a_table.Goals as goal

pub returns-clause-first : goal.returns-clause-first
returns-clause-first c = refl

pub returns-clause-second : goal.returns-clause-second
returns-clause-second c = refl

pub returns-clause-other : goal.returns-clause-other
returns-clause-other c = refl

pub returns-clause-no_table : goal.returns-clause-no_table
returns-clause-no_table c = refl
