use Rattle.image_pack.proofs.ReadBackLemmas.{meets-exactly}
use Rattle.law_plans.proofs.SealedLemmas.{sealed-planned, sealed-stored, text-long}
use Rattle.law_plans.proofs.laws.written.a_planned_sealed_image_is_valid.Goals as goal

pub returns-clause-valid : goal.returns-clause-valid
returns-clause-valid c = λ binary spec sealed own w otp old halves meets stored whole most room was none.
    sealed-planned binary spec sealed halves w otp old ((meets-exactly binary spec sealed halves otp).1 meets) whole
    most room was none own stored

pub returns-clause-stored : goal.returns-clause-stored
returns-clause-stored c = λ binary spec sealed own w trial otp s v halves stored whole most room.
    sealed-stored binary spec sealed halves w trial otp s v own stored whole most room

pub returns-clause-long : goal.returns-clause-long
returns-clause-long c = text-long
