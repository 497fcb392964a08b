-- By computing.
use Rattle.std.proofs.Common.{refl}
use Rattle.check_data.proofs.examples.windows_by_their_owner.Goals as goal

pub returns-clause-none : goal.returns-clause-none
returns-clause-none c = refl

pub returns-clause-former : goal.returns-clause-former
returns-clause-former c = refl

pub returns-clause-end : goal.returns-clause-end
returns-clause-end c = refl

pub returns-clause-both : goal.returns-clause-both
returns-clause-both c = refl

pub returns-clause-order : goal.returns-clause-order
returns-clause-order c = refl

pub returns-clause-longer : goal.returns-clause-longer
returns-clause-longer c = refl
