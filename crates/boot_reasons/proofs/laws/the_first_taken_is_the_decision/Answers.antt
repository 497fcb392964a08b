use Rattle.boot_reasons.proofs.FirstLemmas.{first-decided, none-decided, none-before}
use Rattle.boot_reasons.proofs.laws.the_first_taken_is_the_decision.Goals as goal

pub returns-clause-taken : goal.returns-clause-taken
returns-clause-taken c = first-decided

pub returns-clause-none : goal.returns-clause-none
returns-clause-none c = none-decided

pub returns-clause-before : goal.returns-clause-before
returns-clause-before c = none-before
