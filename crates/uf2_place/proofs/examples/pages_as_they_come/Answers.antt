-- By computing.
use Rattle.std.proofs.Common.{refl}
use Rattle.uf2_place.proofs.examples.pages_as_they_come.Goals as goal

pub returns-clause-none : goal.returns-clause-none
returns-clause-none c = refl

pub returns-clause-all : goal.returns-clause-all
returns-clause-all c = λ a b c. refl
