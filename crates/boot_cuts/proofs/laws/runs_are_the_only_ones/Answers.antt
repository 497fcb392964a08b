use Rattle.boot_cuts.proofs.RunLawLemmas.{runs-one}
use Rattle.boot_cuts.proofs.laws.runs_are_the_only_ones.Goals as goal

pub returns : goal.returns
returns c = runs-one
