use Rattle.std.proofs.Common.{refl}
use Rattle.check_images.proofs.examples.raises_that_are_counted.Goals as goal

pub returns-clause-none : goal.returns-clause-none
returns-clause-none c = refl

pub returns-clause-others : goal.returns-clause-others
returns-clause-others c = refl

pub returns-clause-raises : goal.returns-clause-raises
returns-clause-raises c = refl
