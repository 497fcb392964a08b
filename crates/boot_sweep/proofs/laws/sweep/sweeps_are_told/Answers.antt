use Rattle.boot_sweep.proofs.SweptLemmas.{is-sweep}
use Rattle.boot_sweep.proofs.laws.sweep.sweeps_are_told.Goals as goal

pub returns : goal.returns
returns c = is-sweep
