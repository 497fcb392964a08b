use Rattle.boot_rules.proofs.DecisionLemmas.{chosen-exactly, decision-chosen, chosen-once}
use Rattle.boot_rules.proofs.laws.one_decision.Goals as goal

pub returns-clause-exactly : goal.returns-clause-exactly
returns-clause-exactly c = chosen-exactly

pub returns-clause-some : goal.returns-clause-some
returns-clause-some c = decision-chosen

pub returns-clause-one : goal.returns-clause-one
returns-clause-one c = chosen-once
