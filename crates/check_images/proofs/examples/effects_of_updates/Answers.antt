use Rattle.std.proofs.Common.{refl}
use Rattle.check_images.proofs.examples.effects_of_updates.Goals as goal

pub returns-clause-falls : goal.returns-clause-falls
returns-clause-falls c = refl

pub returns-clause-fell : goal.returns-clause-fell
returns-clause-fell c = refl

pub returns-clause-former : goal.returns-clause-former
returns-clause-former c = refl

pub returns-clause-new : goal.returns-clause-new
returns-clause-new c = refl

pub returns-clause-up : goal.returns-clause-up
returns-clause-up c = refl

pub returns-clause-same : goal.returns-clause-same
returns-clause-same c = refl

pub returns-clause-down : goal.returns-clause-down
returns-clause-down c = refl
