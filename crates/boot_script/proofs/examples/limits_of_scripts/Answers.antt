use Rattle.std.proofs.Common.{refl}
use Rattle.boot_script.specs.Judging.{first_error}
use Rattle.boot_script.proofs.examples.limits_of_scripts.Goals as goal

pub returns-clause-ended : goal.returns-clause-ended
unfolding first_error
returns-clause-ended c = refl

pub returns-clause-behind : goal.returns-clause-behind
unfolding first_error
returns-clause-behind c = refl

pub returns-clause-short : goal.returns-clause-short
unfolding first_error
returns-clause-short c = refl

pub returns-clause-most : goal.returns-clause-most
unfolding first_error
returns-clause-most c = refl

pub returns-clause-too_many : goal.returns-clause-too_many
unfolding first_error
returns-clause-too_many c = refl

pub returns-clause-last : goal.returns-clause-last
unfolding first_error
returns-clause-last c = refl

pub returns-clause-past : goal.returns-clause-past
unfolding first_error
returns-clause-past c = refl
