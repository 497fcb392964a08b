use Rattle.cli_otp.proofs.CaveatLemmas.{critical-none, otp-none, secure-none}
use Rattle.cli_otp.proofs.OtpLaws.{row-low}
use Rattle.cli_otp.proofs.laws.other_otps_give_no_caveat.Goals as goal

pub returns-clause-none : goal.returns-clause-none
returns-clause-none c = secure-none

pub returns-clause-caveats : goal.returns-clause-caveats
returns-clause-caveats c = otp-none

pub returns-clause-critical : goal.returns-clause-critical
returns-clause-critical c = λ spec list secure high are. critical-none spec secure high list are

pub returns-clause-rows : goal.returns-clause-rows
returns-clause-rows c = row-low
