use Rattle.cli_check.proofs.FindingLemmas.{findings-are, findings-once}
use Rattle.cli_check.proofs.laws.what_is_found_is_right.Goals as goal

pub returns-clause-found : goal.returns-clause-found
returns-clause-found c = findings-are

pub returns-clause-once : goal.returns-clause-once
returns-clause-once c = λ content cpu events pattern f right. findings-once content cpu events pattern right f
