use Rattle.equal_runs.proofs.RunLemmas.{runs-are}
use Rattle.equal_runs.proofs.laws.runs_are_runs.Goals as goal

pub returns : goal.returns
returns g c = runs-are
