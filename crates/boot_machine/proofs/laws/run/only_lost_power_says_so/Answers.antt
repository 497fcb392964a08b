use Rattle.boot_machine.proofs.MovePlaceLemmas.{off-lost}
use Rattle.boot_machine.proofs.LostLemmas.{lost-told, no-step}
use Rattle.boot_machine.proofs.laws.run.only_lost_power_says_so.Goals as goal

pub returns-clause-told : goal.returns-clause-told
returns-clause-told c = lost-told

pub returns-clause-off : goal.returns-clause-off
returns-clause-off c = off-lost

pub returns-clause-no_step : goal.returns-clause-no_step
returns-clause-no_step c = no-step
