use Rattle.otp_roll.proofs.BitLemmas.{majority-two}
use Rattle.otp_roll.proofs.laws.a_majority_is_what_two_rows_have.Goals as goal

pub returns : goal.returns
returns c = λ otp r k. majority-two _ _ _ k
