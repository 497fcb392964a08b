use Rattle.std.proofs.Common.{refl}
use Rattle.check_images.proofs.examples.tables_that_differ.Goals as goal

pub returns-clause-same : goal.returns-clause-same
returns-clause-same c = refl

pub returns-clause-none : goal.returns-clause-none
returns-clause-none c = refl

pub returns-clause-slot : goal.returns-clause-slot
returns-clause-slot c = refl

pub returns-clause-word : goal.returns-clause-word
returns-clause-word c = refl

pub returns-clause-gone : goal.returns-clause-gone
returns-clause-gone c = refl

pub returns-clause-come : goal.returns-clause-come
returns-clause-come c = refl
