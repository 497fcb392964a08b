use Rattle.cli_otp.proofs.OtpLaws.{flags-back, row-last, row-none, row-secure, size-word}
use Rattle.cli_otp.proofs.laws.rows_are_those_that_are_listed.Goals as goal

pub returns-clause-last : goal.returns-clause-last
returns-clause-last c = row-last

pub returns-clause-secure : goal.returns-clause-secure
returns-clause-secure c = row-secure

pub returns-clause-none : goal.returns-clause-none
returns-clause-none c = row-none

pub returns-clause-flags : goal.returns-clause-flags
returns-clause-flags c = flags-back

pub returns-clause-size : goal.returns-clause-size
returns-clause-size c = λ spec sound. size-word spec
