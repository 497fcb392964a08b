-- An image is not below its rollback rows.
use Rattle.std.specs.Prelude.{◌≢◌, ℕ, ◌≤◌, IsTrue, List, [], IfSome}
use Rattle.image_def.specs.declared.started.Started.{Started}
use Rattle.otp_roll.specs.Rows.{count}
use Rattle.otp_roll.specs.Flags.{rollback_required}

-- the image's rollback version, where it has one, is at least the count of its rows. Where the OTP
-- requires rollback versions the image lists rows
pub record NotBelow (otp : List ℕ) (s : Started) : Type 0 where
  pub version : IfSome s.rollback (λ v. count otp s.rows.items ≤ v)
  pub required : IsTrue (rollback_required otp) → s.rows.items ≢ []
