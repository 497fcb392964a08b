use Rattle.boot_rules.proofs.DecisionLemmas.{chosen-not_below}
use Rattle.boot_rules.proofs.laws.started_is_not_below.Goals as goal

pub returns : goal.returns
returns c = chosen-not_below
