use Rattle.cli_otp.proofs.OtpLaws.{size-back, told-back}
use Rattle.cli_otp.proofs.laws.otps_are_read_back.Goals as goal

pub returns-clause-size : goal.returns-clause-size
returns-clause-size c = size-back

pub returns-clause-explained : goal.returns-clause-explained
returns-clause-explained c = told-back
