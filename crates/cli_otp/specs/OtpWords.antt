-- The OTP file of a board that a text describes, as a function of what the text says.
use Rattle.std.specs.Prelude.{ℕ, ◌+◌, ◌*◌, ◌^◌, ◌==◌, ◌&&◌, Bool, false, not, nat_le, nat_lt, if◌then◌else◌, List, [], ◌∷◌, ◌++◌, map, count_by, Result, Ok, Err, codes, decimal}
use Rattle.std.specs.List.{range_with_len}
use Rattle.block_codec.specs.Words.{bytes_of}
use Rattle.otp_roll.specs.declared.flags.TheConstants.{BOOT_FLAGS, SLOT_SIZE_ROW}
use Rattle.table_json.specs.declared.fault.JsonFault.{JsonFault}
use Rattle.table_json.specs.declared.otps.OtpRow.{OtpRow}
use Rattle.table_json.specs.Otps.{OtpView}
use Rattle.cli_explain.specs.Texts.{otp_text}
use Rattle.cli_course.specs.Outcomes.{line, one_file, Work, Answers}
use Rattle.cli_otp.specs.declared.writing.TheConstants.{FIRST_SECURE_ROW, SECURE_ROWS}

-- the value of the last pair of a row; where there is none, the value before
abbrev pub listed_from : ℕ → List OtpRow → ℕ → ℕ
listed_from value [] row = value
listed_from value (pair ∷ pairs) row =
    listed_from (if row == pair.row then pair.value else value) pairs row

-- the value that is listed for a row, or 0; the last listed value counts
abbrev pub listed : List OtpRow → ℕ → ℕ
listed pairs row = listed_from 0 pairs row

-- the boot flags: bit 0 where rollback versions are required, bit 1 where flash boot is off
abbrev pub flag_word : Bool → Bool → ℕ
flag_word required off = (if required then 1 else 0) + (if off then 2 else 0)

-- the rows that ask for secure boot, 0x040 to 0x047 (RP2350 Datasheet, chapter 13, OTP, CRIT1 and
-- its copies)
abbrev pub is_secure_row : ℕ → Bool
is_secure_row row = nat_le FIRST_SECURE_ROW row && nat_lt row (FIRST_SECURE_ROW + SECURE_ROWS)

-- what stands in a row that is not listed: bit 0 in these rows where secure boot is on
abbrev pub unlisted : Bool → ℕ → ℕ
unlisted secure row = if secure && is_secure_row row then 1 else 0

-- a row of the OTP: the boot flags; the exponent of the slot size; the last listed value; or what
-- stands in a row that is not listed
abbrev pub row_word : OtpView → ℕ → ℕ
row_word spec row =
    if row == BOOT_FLAGS then flag_word spec.rollback_required spec.flash_off
    else if row == SLOT_SIZE_ROW then spec.slot_exponent
    else listed_from (unlisted spec.secure_boot row) spec.rows row

-- the 4096 rows
unfoldable pub otp_words : OtpView → List ℕ
otp_words spec = map (row_word spec) (range_with_len 0 4096)

-- the file: each row in four bytes, the lowest first
abbrev pub otp_bytes : OtpView → List ℕ
otp_bytes spec = bytes_of (otp_words spec)

-- how many of the rows have a listed value that is not 0
unfoldable pub set_count : List OtpRow → ℕ
set_count pairs = count_by (λ row. not (listed pairs row == 0)) (range_with_len 0 4096)

-- what `explain` says of such an OTP, where two slots fit into the flash
abbrev pub told_text : OtpView → List ℕ
told_text spec =
    otp_text spec.rollback_required spec.flash_off (4096 * 2 ^ spec.slot_exponent)

-- the line of the command
abbrev pub otp_line : OtpView → List ℕ
otp_line spec = told_text spec ++ (codes " rows=" ++ line (decimal (set_count spec.rows)))

-- the OTP is written; a text that is at fault has no result
abbrev pub otp_work : List ℕ → Result OtpView JsonFault → Work
otp_work out (Ok spec) = Answers false (otp_line spec) (one_file out (otp_bytes spec))
otp_work out (Err fault) = Answers false [] []
