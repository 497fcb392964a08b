use Rattle.otp_roll.proofs.WrittenRowLemmas.{count-three_equal, raises-three_equal}
use Rattle.otp_roll.proofs.examples.three_equal_rows.Goals as goal

pub returns-clause-count : goal.returns-clause-count
returns-clause-count c = count-three_equal

pub returns-clause-raises : goal.returns-clause-raises
returns-clause-raises c = raises-three_equal
