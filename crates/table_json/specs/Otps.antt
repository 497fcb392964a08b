-- The OTP of a board, from a text.
use Rattle.std.specs.Prelude.{ℕ, ◌*◌, ◌^◌, ◌==◌, ◌&&◌, not, Bool, false, if◌then◌else◌, List, [], ◌∷◌, ◌++◌, length, nat_le, nat_lt}
use Rattle.std.specs.Prelude.{Option, None, Some, option_and_then, Result, Ok, Err, Vec}
use Rattle.std.specs.declared.alloc.Global.{Global}
use Rattle.std.specs.List.{find, range_with_len}
use Rattle.serde_json.specs.Data.{Data}
use Rattle.serde_json.specs.Find.{as_bool}
use Rattle.pico_board.specs.declared.window.TheConstants.{ROWS}
use Rattle.otp_roll.specs.declared.flags.TheConstants.{BOOT_FLAGS, SLOT_SIZE_ROW}
use Rattle.table_json.specs.declared.otps.OtpRow.{OtpRow}
use Rattle.table_json.specs.declared.otps.OtpSpec.{OtpSpec}
use Rattle.table_json.specs.declared.otps.TheConstants.{MOST_LISTED, SLOT_EXPONENTS}
use Rattle.table_json.specs.declared.fault.Place.TheVariants.{Top}
use Rattle.table_json.specs.declared.fault.Field.TheVariants.{Rows, RollbackRequired, FlashOff, SlotSize, SecureBoot}
use Rattle.table_json.specs.declared.fault.JsonFault.{JsonFault}
use Rattle.table_json.specs.declared.members.Shape.TheVariants.{OfOtp}
use Rattle.table_json.specs.Steps.{◌>>=◌}
use Rattle.table_json.specs.Members.{object_judged, optional}
use Rattle.table_json.specs.Forms.{values_in, number_in, number_or_text, if_below}

-- an OTP as plain data: whether rollback versions are required; whether flash boot is off; the
-- exponent of the slot size; rows with their values; and whether secure boot is on; the slot size
-- is 4096 times 2 to the exponent
pub record OtpView : Type 0 where
  pub rollback_required : Bool
  pub flash_off : Bool
  pub slot_exponent : ℕ
  pub rows : List OtpRow
  pub secure_boot : Bool

abbrev pub otp_spec_from : OtpSpec → OtpView
otp_spec_from spec = record {
  rollback_required = spec.rollback_required;
  flash_off = spec.flash_off;
  slot_exponent = spec.slot_exponent;
  rows = spec.rows.items;
  secure_boot = spec.secure_boot;
}

-- what a reading answers, as plain data
abbrev pub otp_answer : Result OtpSpec JsonFault → Result OtpView JsonFault
otp_answer (Ok spec) = Ok (otp_spec_from spec)
otp_answer (Err fault) = Err fault

abbrev pub rows_answer : Result (Vec OtpRow Global) JsonFault → Result (List OtpRow) JsonFault
rows_answer (Ok rows) = Ok rows.items
rows_answer (Err fault) = Err fault

abbrev pub pairs_read : Option (Vec OtpRow Global) → Option (List OtpRow)
pairs_read None = None
pairs_read (Some rows) = Some rows.items

-- the exponent of a slot size, at most 11: the size is 4096 times 2 to the exponent
abbrev pub is_size_of : ℕ → ℕ → Bool
is_size_of size exponent = size == 4096 * 2 ^ exponent

unfoldable pub exponent_of : ℕ → Option ℕ
exponent_of size = find (is_size_of size) (range_with_len 0 SLOT_EXPONENTS)

abbrev pub size_form : Data → Option ℕ
size_form d = option_and_then exponent_of (number_in d)

-- a row that may be listed: one of the 4096, but not that of the boot flags or of the slot size
abbrev pub if_listed : ℕ → Option ℕ
if_listed row =
    if (nat_lt row ROWS && not (row == BOOT_FLAGS)) && not (row == SLOT_SIZE_ROW) then Some row
    else None

-- a row and its value
abbrev pub row_with : Option ℕ → Option ℕ → Option OtpRow
row_with (Some number) (Some word) = Some (record { row = number; value = word })
row_with _ _ = None

-- a pair of a row that may be listed and a value below 2^24, each a number or a text
abbrev pub pair_in : List Data → Option OtpRow
pair_in (row ∷ value ∷ []) =
    row_with (option_and_then if_listed (number_or_text row))
    (option_and_then (if_below (2 ^ 24)) (number_or_text value))
pair_in _ = None

abbrev pub pair_form : Data → Option OtpRow
pair_form d = option_and_then pair_in (values_in d)

-- pairs after those that were read before
abbrev pub pairs_after : List OtpRow → List Data → Option (List OtpRow)
pairs_after done [] = Some done
pairs_after done (d ∷ ds) =
    option_and_then (λ pair. pairs_after (done ++ pair ∷ []) ds) (pair_form d)

-- rows are a list of at most 4096 pairs
abbrev pub listed_pairs : List Data → Option (List OtpRow)
listed_pairs ds = if nat_le (length ds) MOST_LISTED then pairs_after [] ds else None

abbrev pub pairs_form : Data → Option (List OtpRow)
pairs_form d = option_and_then listed_pairs (values_in d)

-- an OTP of these parts
abbrev pub otp_with : Bool → Bool → ℕ → List OtpRow → Bool → OtpView
otp_with required off exponent pairs secure = record {
  rollback_required = required;
  flash_off = off;
  slot_exponent = exponent;
  rows = pairs;
  secure_boot = secure;
}

-- the OTP of a text's value, or its first fault: its object is judged first, then its members in
-- this order
abbrev pub otp_from : Data → Result OtpView JsonFault
otp_from d = do
  judged ← object_judged OfOtp Top RollbackRequired d
  required ← optional as_bool false Top RollbackRequired d
  off ← optional as_bool false Top FlashOff d
  exponent ← optional size_form 0 Top SlotSize d
  rows ← optional pairs_form [] Top Rows d
  secure ← optional as_bool false Top SecureBoot d
  Ok (otp_with required off exponent rows secure)
