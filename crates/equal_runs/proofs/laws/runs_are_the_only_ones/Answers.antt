use Rattle.equal_runs.proofs.OneLemmas.{runs-one}
use Rattle.equal_runs.proofs.laws.runs_are_the_only_ones.Goals as goal

pub returns : goal.returns
returns g c = runs-one
