-- Rows that are set one after the other.
use Rattle.std.specs.Prelude.{ℕ, Bool, if◌then◌else◌, List, [], ◌∷◌, map, slice_set}
use Rattle.std.specs.List.{range_with_len}
use Rattle.otp_roll.specs.declared.flags.TheConstants.{BOOT_FLAGS, SLOT_SIZE_ROW}
use Rattle.table_json.specs.declared.otps.OtpRow.{OtpRow}
use Rattle.table_json.specs.Otps.{OtpView}
use Rattle.cli_otp.specs.declared.writing.TheConstants.{FIRST_SECURE_ROW, SECURE_ROWS}
use Rattle.cli_otp.specs.OtpWords.{flag_word}

-- the listed rows are set, in their order
abbrev pub rows_set : List ℕ → List OtpRow → List ℕ
rows_set words [] = words
rows_set words (pair ∷ pairs) = rows_set (slice_set words pair.row pair.value) pairs

-- bit 0 in so many rows from one on, as if they were listed
abbrev pub first_bits : ℕ → ℕ → List OtpRow
first_bits row count = map (λ at. record { row = at; value = 1 }) (range_with_len row count)

-- the rows that ask for secure boot are set, where it is on
abbrev pub secure_set : List ℕ → Bool → List ℕ
secure_set words secure =
    if secure then rows_set words (first_bits FIRST_SECURE_ROW SECURE_ROWS) else words

-- the exponent of the slot size and the boot flags are set
abbrev pub flags_set : List ℕ → OtpView → List ℕ
flags_set words spec =
    slice_set (slice_set words SLOT_SIZE_ROW spec.slot_exponent) BOOT_FLAGS
    (flag_word spec.rollback_required spec.flash_off)
