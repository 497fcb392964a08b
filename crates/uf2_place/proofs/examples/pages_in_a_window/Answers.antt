-- By computing.
use Rattle.std.proofs.Common.{refl}
use Rattle.uf2_place.proofs.examples.pages_in_a_window.Goals as goal

pub returns-clause-first : goal.returns-clause-first
returns-clause-first c = refl

pub returns-clause-last : goal.returns-clause-last
returns-clause-last c = refl

pub returns-clause-past : goal.returns-clause-past
returns-clause-past c = refl

pub returns-clause-below : goal.returns-clause-below
returns-clause-below c = refl
