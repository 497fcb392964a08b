use Rattle.cli_otp.proofs.OtpLaws.{bytes-long, file-back, file-formed}
use Rattle.cli_otp.proofs.laws.files_have_their_form.Goals as goal

pub returns-clause-length : goal.returns-clause-length
returns-clause-length c = bytes-long

pub returns-clause-form : goal.returns-clause-form
returns-clause-form c = file-formed

pub returns-clause-rows : goal.returns-clause-rows
returns-clause-rows c = file-back
