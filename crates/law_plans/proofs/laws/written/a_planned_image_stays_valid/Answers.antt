use Rattle.law_plans.proofs.PlannedLemmas.{low-planned}
use Rattle.law_plans.proofs.PlannedValidLemmas.{planned-valid}
use Rattle.law_plans.proofs.laws.written.a_planned_image_stays_valid.Goals as goal

pub returns-clause-valid : goal.returns-clause-valid
returns-clause-valid c = λ w cpu trial otp image old s v whole most room was stored none.
    (planned-valid w image old whole most room was none cpu trial otp s v stored).valid

pub returns-clause-low : goal.returns-clause-low
returns-clause-low c = low-planned
