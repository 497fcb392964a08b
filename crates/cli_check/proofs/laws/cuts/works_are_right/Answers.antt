use Rattle.cli_check.proofs.CutsRuleLemmas.{cuts-works}
use Rattle.cli_check.proofs.laws.cuts.works_are_right.Goals as goal

pub returns : goal.returns
returns c = cuts-works
