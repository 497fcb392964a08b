use Rattle.std.proofs.Common.{refl}
use Rattle.check_records.specs.Idle.{is_idle}
use Rattle.check_records.proofs.examples.records.other_outcomes.Goals as goal

pub returns-clause-done : goal.returns-clause-done
unfolding is_idle
returns-clause-done c = refl

pub returns-clause-replied : goal.returns-clause-replied
unfolding is_idle
returns-clause-replied c = λ reply. refl

pub returns-clause-rebooted : goal.returns-clause-rebooted
unfolding is_idle
returns-clause-rebooted c = λ d. refl

pub returns-clause-ram : goal.returns-clause-ram
unfolding is_idle
returns-clause-ram c = λ image. refl

pub returns-clause-accepted_block : goal.returns-clause-accepted_block
unfolding is_idle
returns-clause-accepted_block c = λ answer. refl

pub returns-clause-downloaded : goal.returns-clause-downloaded
unfolding is_idle
returns-clause-downloaded c = λ d. refl

pub returns-clause-ended : goal.returns-clause-ended
unfolding is_idle
returns-clause-ended c = refl

pub returns-clause-armed : goal.returns-clause-armed
unfolding is_idle
returns-clause-armed c = refl

pub returns-clause-lost : goal.returns-clause-lost
unfolding is_idle
returns-clause-lost c = refl

pub returns-clause-booted : goal.returns-clause-booted
unfolding is_idle
returns-clause-booted c = λ d. refl

pub returns-clause-bought : goal.returns-clause-bought
unfolding is_idle
returns-clause-bought c = refl
