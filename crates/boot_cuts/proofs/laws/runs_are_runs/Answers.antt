use Rattle.boot_cuts.proofs.RunLawLemmas.{runs-are}
use Rattle.boot_cuts.proofs.laws.runs_are_runs.Goals as goal

pub returns : goal.returns
returns c = runs-are
