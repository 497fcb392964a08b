use Rattle.svg_sweep.proofs.RunLawLemmas.{runs-are}
use Rattle.svg_sweep.proofs.laws.runs_are_runs.Goals as goal

pub returns : goal.returns
returns c = runs-are
