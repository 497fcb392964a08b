-- What is right for `otp`, by the rules.
use Rattle.std.specs.Prelude.{◌≡◌, ℕ, List}
use Rattle.table_json.specs.Otps.{OtpView}
use Rattle.table_json.specs.OtpRules.{IsOtpText}
use Rattle.cli_course.specs.declared.status.Status.TheVariants.{Done}
use Rattle.cli_course.specs.Outcomes.{one_file, AnswerView}
use Rattle.cli_otp.specs.OtpWords.{otp_bytes, otp_line}

-- `otp`: the outcome prints the OTP that the text gives, and writes its file
pub record IsOtpOf (out j : List ℕ) (o : AnswerView) : Type 0 where
  pub spec : OtpView
  pub says : IsOtpText j spec
  pub status : o.status ≡ Done
  pub text : o.text ≡ otp_line spec
  pub files : o.files ≡ one_file out (otp_bytes spec)
