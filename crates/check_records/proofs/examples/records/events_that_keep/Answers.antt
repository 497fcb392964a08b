use Rattle.std.proofs.Common.{refl}
use Rattle.boot_machine.specs.Plays.{moved_machine}
use Rattle.check_records.specs.Shares.{share_of}
use Rattle.check_records.proofs.examples.records.events_that_keep.Goals as goal

pub returns-clause-kind : goal.returns-clause-kind
unfolding share_of
returns-clause-kind c = refl

pub returns-clause-none : goal.returns-clause-none
unfolding share_of
returns-clause-none c = refl

pub returns-clause-keeps : goal.returns-clause-keeps
unfolding share_of
returns-clause-keeps c = refl

pub returns-clause-idle : goal.returns-clause-idle
unfolding share_of
returns-clause-idle c = refl

pub returns-clause-off : goal.returns-clause-off
unfolding share_of
returns-clause-off c = refl

pub returns-clause-other_bytes : goal.returns-clause-other_bytes
unfolding share_of
returns-clause-other_bytes c = λ c. refl

pub returns-clause-without_power : goal.returns-clause-without_power
unfolding share_of moved_machine
returns-clause-without_power c = λ c. refl
