use Rattle.otp_roll.proofs.WrittenRowLemmas.{count-at_version, raises-at_version}
use Rattle.otp_roll.proofs.examples.rows_at_the_version.Goals as goal

pub returns-clause-count : goal.returns-clause-count
returns-clause-count c = count-at_version

pub returns-clause-raises : goal.returns-clause-raises
returns-clause-raises c = raises-at_version
