use Rattle.boot_sweep.proofs.ResultLemmas.{judged-exactly}
use Rattle.boot_sweep.proofs.laws.sweep.results_are_judged.Goals as goal

pub returns : goal.returns
returns c = judged-exactly
