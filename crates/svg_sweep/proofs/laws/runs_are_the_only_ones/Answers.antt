use Rattle.svg_sweep.proofs.RunLawLemmas.{runs-one}
use Rattle.svg_sweep.proofs.laws.runs_are_the_only_ones.Goals as goal

pub returns : goal.returns
returns c = runs-one
