use Rattle.std.proofs.Common.{refl}
use Rattle.check_records.specs.Idle.{is_idle}
use Rattle.check_records.proofs.examples.records.the_first_is_told.Goals as goal

pub returns-clause-none : goal.returns-clause-none
unfolding is_idle
returns-clause-none c = refl

pub returns-clause-first : goal.returns-clause-first
unfolding is_idle
returns-clause-first c = refl

pub returns-clause-without_power : goal.returns-clause-without_power
unfolding is_idle
returns-clause-without_power c = refl

pub returns-clause-behind_lost_power : goal.returns-clause-behind_lost_power
unfolding is_idle
returns-clause-behind_lost_power c = refl
