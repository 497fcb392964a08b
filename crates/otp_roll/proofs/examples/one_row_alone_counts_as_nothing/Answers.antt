use Rattle.otp_roll.proofs.WrittenRowLemmas.{count-one_alone, raises-one_alone}
use Rattle.otp_roll.proofs.examples.one_row_alone_counts_as_nothing.Goals as goal

pub returns-clause-count : goal.returns-clause-count
returns-clause-count c = count-one_alone

pub returns-clause-raises : goal.returns-clause-raises
returns-clause-raises c = raises-one_alone
