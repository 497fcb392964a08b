-- By computing.
use Rattle.std.proofs.Common.{refl}
use Rattle.boot_sweep.specs.Comparing.{agree_on}
use Rattle.boot_cuts.proofs.examples.standing.windows_that_agree_to_the_end.Goals as goal

pub returns-clause-within : goal.returns-clause-within
unfolding agree_on
returns-clause-within c = refl

pub returns-clause-behind : goal.returns-clause-behind
unfolding agree_on
returns-clause-behind c = refl
