use Rattle.table_json.proofs.OtpLaws.{otp-sound}
use Rattle.table_json.proofs.laws.otps_of_texts_are_sound.Goals as goal

pub returns : goal.returns
returns c = otp-sound
