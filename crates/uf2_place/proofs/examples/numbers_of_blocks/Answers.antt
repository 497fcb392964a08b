-- By computing.
use Rattle.std.proofs.Common.{refl}
use Rattle.uf2_place.proofs.examples.numbers_of_blocks.Goals as goal

pub returns-clause-one : goal.returns-clause-one
returns-clause-one c = refl

pub returns-clause-most : goal.returns-clause-most
returns-clause-most c = refl

pub returns-clause-none : goal.returns-clause-none
returns-clause-none c = refl

pub returns-clause-above : goal.returns-clause-above
returns-clause-above c = refl

pub returns-clause-past : goal.returns-clause-past
returns-clause-past c = refl
