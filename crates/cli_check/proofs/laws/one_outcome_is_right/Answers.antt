use Rattle.cli_check.proofs.CheckRuleLemmas.{one-asked, one-check}
use Rattle.cli_check.proofs.laws.one_outcome_is_right.Goals as goal

pub returns-clause-plain : goal.returns-clause-plain
returns-clause-plain c = one-check

pub returns-clause-asked : goal.returns-clause-asked
returns-clause-asked c = one-asked
