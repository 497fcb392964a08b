-- By computing.
use Rattle.std.proofs.Common.{refl}
use Rattle.owner_data.proofs.examples.examples_are_right.Goals as goal

pub returns-clause-owned : goal.returns-clause-owned
returns-clause-owned c = refl

pub returns-clause-two : goal.returns-clause-two
returns-clause-two c = refl

pub returns-clause-full : goal.returns-clause-full
returns-clause-full c = refl

pub returns-clause-fourteen : goal.returns-clause-fourteen
returns-clause-fourteen c = refl
