use Rattle.otp_roll.proofs.RisingLemmas.{elsewhere-from, row-left}
use Rattle.otp_roll.proofs.laws.rows_that_no_step_raises_stay.Goals as goal

pub returns : goal.returns
returns c = λ old steps d i none left. row-left old steps d i (elsewhere-from i steps none) left
