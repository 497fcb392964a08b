use Rattle.boot_machine.proofs.TrialRunLemmas.{running-trial}
use Rattle.boot_machine.proofs.laws.run.a_running_trial_is_chosen.Goals as goal

pub returns : goal.returns
returns c = running-trial
