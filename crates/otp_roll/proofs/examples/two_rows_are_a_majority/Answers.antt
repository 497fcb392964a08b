use Rattle.otp_roll.proofs.WrittenRowLemmas.{count-two_agree}
use Rattle.otp_roll.proofs.examples.two_rows_are_a_majority.Goals as goal

pub returns-clause-count : goal.returns-clause-count
returns-clause-count c = count-two_agree
