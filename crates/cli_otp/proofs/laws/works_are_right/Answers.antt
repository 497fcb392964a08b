use Rattle.cli_otp.proofs.OtpWorkLemmas.{otp-works}
use Rattle.cli_otp.proofs.laws.works_are_right.Goals as goal

pub returns : goal.returns
returns c = λ form reads formed gives. otp-works form reads formed gives
