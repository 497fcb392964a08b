use Rattle.otp_roll.proofs.CountedLemmas.{raises-append}
use Rattle.otp_roll.proofs.laws.raises_of_appended_rows.Goals as goal

pub returns : goal.returns
returns c = raises-append
