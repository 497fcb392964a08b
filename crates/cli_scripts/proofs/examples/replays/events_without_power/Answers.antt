use Rattle.std.proofs.Common.{refl}
use Rattle.boot_machine.specs.Plays.{moved_machine}
use Rattle.cli_scripts.proofs.examples.replays.events_without_power.Goals as goal

pub returns-clause-nothing : goal.returns-clause-nothing
unfolding moved_machine
returns-clause-nothing c = refl

pub returns-clause-cuts : goal.returns-clause-cuts
unfolding moved_machine
returns-clause-cuts c = refl
