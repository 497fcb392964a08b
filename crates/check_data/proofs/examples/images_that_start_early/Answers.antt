-- By computing.
use Rattle.std.proofs.Common.{refl}
use Rattle.check_data.proofs.examples.images_that_start_early.Goals as goal

pub returns-clause-early : goal.returns-clause-early
returns-clause-early c = refl

pub returns-clause-there : goal.returns-clause-there
returns-clause-there c = refl

pub returns-clause-beside : goal.returns-clause-beside
returns-clause-beside c = refl

pub returns-clause-former : goal.returns-clause-former
returns-clause-former c = refl

pub returns-clause-as_before : goal.returns-clause-as_before
returns-clause-as_before c = refl

pub returns-clause-between : goal.returns-clause-between
returns-clause-between c = refl

pub returns-clause-none : goal.returns-clause-none
returns-clause-none c = refl

pub returns-clause-second : goal.returns-clause-second
returns-clause-second c = refl
