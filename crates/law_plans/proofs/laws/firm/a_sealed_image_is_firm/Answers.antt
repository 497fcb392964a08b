use Rattle.image_pack.proofs.ReadBackLemmas.{meets-exactly}
use Rattle.law_plans.proofs.SealedFirmLemmas.{firm-filled, firm-planned}
use Rattle.law_plans.proofs.laws.firm.a_sealed_image_is_firm.Goals as goal

pub returns-clause-filled : goal.returns-clause-filled
returns-clause-filled k = λ binary spec sealed c w f halves long lone right erased is meets.
    firm-filled binary spec sealed halves long lone c w f right erased is
    ((meets-exactly binary spec sealed halves c.otp).1 meets)

pub returns-clause-planned : goal.returns-clause-planned
returns-clause-planned k = λ binary spec sealed own c w old halves long lone stored whole most room was is meets.
    firm-planned binary spec sealed halves long lone w old whole most room was own stored c is
    ((meets-exactly binary spec sealed halves c.otp).1 meets)
