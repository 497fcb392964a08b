use Rattle.boot_sweep.proofs.RefusalCaseLemmas.{refused-exactly}
use Rattle.boot_sweep.proofs.laws.sweep.refusals_are_judged.Goals as goal

pub returns : goal.returns
returns c = λ content cpu steps e right. refused-exactly content cpu steps right e
