use Rattle.table_json.proofs.OtpLaws.{read-sound}
use Rattle.table_json.proofs.otps.otp_spec_of.Goals as goal

pub returns-clause-sound : goal.returns-clause-sound
returns-clause-sound c = read-sound c.args.text.now c.judged_otp.result c.judged_otp.ensures.spec
