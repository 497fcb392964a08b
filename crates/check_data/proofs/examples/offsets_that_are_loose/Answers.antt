-- By computing.
use Rattle.std.proofs.Common.{refl}
use Rattle.check_data.specs.Loose.{offsets_where}
use Rattle.check_data.proofs.examples.offsets_that_are_loose.Goals as goal

pub returns-clause-none : goal.returns-clause-none
unfolding offsets_where
returns-clause-none c = refl

pub returns-clause-some : goal.returns-clause-some
unfolding offsets_where
returns-clause-some c = refl

pub returns-clause-later : goal.returns-clause-later
unfolding offsets_where
returns-clause-later c = refl

pub returns-clause-mapped : goal.returns-clause-mapped
unfolding offsets_where
returns-clause-mapped c = refl

pub returns-clause-shorter : goal.returns-clause-shorter
unfolding offsets_where
returns-clause-shorter c = refl

pub returns-clause-unmapped : goal.returns-clause-unmapped
unfolding offsets_where
returns-clause-unmapped c = refl
