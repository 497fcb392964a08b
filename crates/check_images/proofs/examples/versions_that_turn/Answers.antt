use Rattle.std.proofs.Common.{refl}
use Rattle.check_images.proofs.examples.versions_that_turn.Goals as goal

pub returns-clause-up : goal.returns-clause-up
returns-clause-up c = refl

pub returns-clause-same : goal.returns-clause-same
returns-clause-same c = refl

pub returns-clause-down : goal.returns-clause-down
returns-clause-down c = refl

pub returns-clause-major : goal.returns-clause-major
returns-clause-major c = refl

pub returns-clause-minor : goal.returns-clause-minor
returns-clause-minor c = refl
