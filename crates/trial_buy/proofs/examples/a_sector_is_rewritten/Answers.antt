-- By computing.
use Rattle.std.proofs.Common.{refl}
use Rattle.trial_buy.specs.Buying.{page_programs}
use Rattle.trial_buy.proofs.examples.a_sector_is_rewritten.Goals as goal

pub returns-clause-first : goal.returns-clause-first
unfolding page_programs
returns-clause-first c = λ bytes. refl

pub returns-clause-second : goal.returns-clause-second
unfolding page_programs
returns-clause-second c = λ bytes. refl

pub returns-clause-last : goal.returns-clause-last
unfolding page_programs
returns-clause-last c = λ bytes. refl

pub returns-clause-sixteen : goal.returns-clause-sixteen
unfolding page_programs
returns-clause-sixteen c = λ bytes. refl

pub returns-clause-erased : goal.returns-clause-erased
unfolding page_programs
returns-clause-erased c = λ flash. refl

pub returns-clause-end : goal.returns-clause-end
unfolding page_programs
returns-clause-end c = λ flash. refl

pub returns-clause-next : goal.returns-clause-next
unfolding page_programs
returns-clause-next c = λ flash. refl

pub returns-clause-steps : goal.returns-clause-steps
unfolding page_programs
returns-clause-steps c = λ flash. refl
