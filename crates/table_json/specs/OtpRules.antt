-- What the text of an OTP is, and which fault another text has first.
use Rattle.std.specs.Prelude.{◌≡◌, ◌≢◌, ◌^◌, ◌<◌, ◌≤◌, ℕ, List, length, All, None, Some, Ok}
use Rattle.serde_json.specs.Data.{Data}
use Rattle.table_json.specs.declared.otps.OtpRow.{OtpRow}
use Rattle.table_json.specs.declared.fault.JsonFault.{JsonFault}
use Rattle.table_json.specs.Otps.{OtpView, otp_from}
use Rattle.table_json.specs.Rules.{first_broken, otp_rules}
use Rattle.table_json.specs.Texts.{IsJsonText}

-- the text of an OTP: it breaks no rule of an OTP, and its members are these
pub record IsOtpText (bytes : List ℕ) (spec : OtpView) : Type 0 where
  pub value : Data
  pub text : IsJsonText bytes value
  pub unbroken : first_broken (otp_rules value) ≡ None
  pub gives : otp_from value ≡ Ok spec

-- the first rule of an OTP that a value breaks has this fault
abbrev pub IsOtpFault : Data → JsonFault → Type 0
IsOtpFault d fault = first_broken (otp_rules d) ≡ Some fault

-- a row that may be listed, and a value of 24 bits: any row but that of the boot flags, 0x048, and
-- that of the slot size, 0x055
pub record IsListedRow (pair : OtpRow) : Type 0 where
  pub most : pair.row ≤ 0xfff
  pub flags : pair.row ≢ 0x048
  pub size : pair.row ≢ 0x055
  pub narrow : pair.value < 2 ^ 24

-- what the OTP of a text is: the slot size is 4096 to 8,388,608, and at most 4096 pairs are
-- listed, each of a row that may be listed
pub record IsSound (spec : OtpView) : Type 0 where
  pub size : spec.slot_exponent ≤ 11
  pub few : length spec.rows ≤ 4096
  pub listed : All IsListedRow spec.rows
