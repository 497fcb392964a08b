-- By computing.
use Rattle.std.proofs.Common.{refl}
use Rattle.cli_check.proofs.examples.names.names_of_laws.Goals as goal

pub returns-clause-none : goal.returns-clause-none
returns-clause-none c = refl

pub returns-clause-staged : goal.returns-clause-staged
returns-clause-staged c = refl

pub returns-clause-gated : goal.returns-clause-gated
returns-clause-gated c = refl

pub returns-clause-confined : goal.returns-clause-confined
returns-clause-confined c = refl

pub returns-clause-first_reason : goal.returns-clause-first_reason
returns-clause-first_reason c = refl

pub returns-clause-last_reason : goal.returns-clause-last_reason
returns-clause-last_reason c = refl
