-- By computing.
use Rattle.std.proofs.Common.{refl}
use Rattle.boot_caveats.specs.StartCaveats.{is_filled_from}
use Rattle.boot_caveats.proofs.examples.values_without_a_gap.Goals as goal

pub returns-clause-zero : goal.returns-clause-zero
unfolding is_filled_from
returns-clause-zero c = refl

pub returns-clause-one : goal.returns-clause-one
unfolding is_filled_from
returns-clause-one c = refl

pub returns-clause-two : goal.returns-clause-two
unfolding is_filled_from
returns-clause-two c = refl

pub returns-clause-three : goal.returns-clause-three
unfolding is_filled_from
returns-clause-three c = refl

pub returns-clause-five : goal.returns-clause-five
unfolding is_filled_from
returns-clause-five c = refl

pub returns-clause-six : goal.returns-clause-six
unfolding is_filled_from
returns-clause-six c = refl

pub returns-clause-all : goal.returns-clause-all
unfolding is_filled_from
returns-clause-all c = refl

pub returns-clause-highest : goal.returns-clause-highest
unfolding is_filled_from
returns-clause-highest c = refl

pub returns-clause-alone : goal.returns-clause-alone
unfolding is_filled_from
returns-clause-alone c = refl
