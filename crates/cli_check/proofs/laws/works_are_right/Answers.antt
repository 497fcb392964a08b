use Rattle.cli_check.proofs.CheckRuleLemmas.{asked-works, check-works}
use Rattle.cli_check.proofs.laws.works_are_right.Goals as goal

pub returns-clause-plain : goal.returns-clause-plain
returns-clause-plain c = check-works

pub returns-clause-asked : goal.returns-clause-asked
returns-clause-asked c = asked-works
