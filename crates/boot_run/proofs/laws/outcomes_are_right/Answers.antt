use Rattle.boot_run.proofs.RuleLemmas.{obeys, only, whole-right}
use Rattle.boot_run.proofs.laws.outcomes_are_right.Goals as goal

pub returns-clause-right : goal.returns-clause-right
returns-clause-right c = obeys

pub returns-clause-only : goal.returns-clause-only
returns-clause-only c = only

pub returns-clause-whole : goal.returns-clause-whole
returns-clause-whole c = whole-right
