-- By computing.
use Rattle.std.proofs.Common.{refl}
use Rattle.check_data.proofs.examples.images_on_other_data.Goals as goal

pub returns-clause-former : goal.returns-clause-former
returns-clause-former c = refl

pub returns-clause-same : goal.returns-clause-same
returns-clause-same c = refl

pub returns-clause-end : goal.returns-clause-end
returns-clause-end c = refl

pub returns-clause-not_of_end : goal.returns-clause-not_of_end
returns-clause-not_of_end c = refl

pub returns-clause-not_of_former : goal.returns-clause-not_of_former
returns-clause-not_of_former c = refl

pub returns-clause-left_torn : goal.returns-clause-left_torn
returns-clause-left_torn c = refl

pub returns-clause-other : goal.returns-clause-other
returns-clause-other c = refl

pub returns-clause-falls : goal.returns-clause-falls
returns-clause-falls c = refl

pub returns-clause-both : goal.returns-clause-both
returns-clause-both c = refl

pub returns-clause-as_before : goal.returns-clause-as_before
returns-clause-as_before c = refl

pub returns-clause-as_after : goal.returns-clause-as_after
returns-clause-as_after c = refl

pub returns-clause-as_after_torn : goal.returns-clause-as_after_torn
returns-clause-as_after_torn c = refl
