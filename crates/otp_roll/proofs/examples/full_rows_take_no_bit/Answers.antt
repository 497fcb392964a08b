use Rattle.otp_roll.proofs.WrittenRowLemmas.{raises-next, raises-last}
use Rattle.otp_roll.proofs.examples.full_rows_take_no_bit.Goals as goal

pub returns-clause-next : goal.returns-clause-next
returns-clause-next c = raises-next

pub returns-clause-last : goal.returns-clause-last
returns-clause-last c = raises-last
