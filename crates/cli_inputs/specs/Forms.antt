-- The forms of input files, and the content that a flash file and an OTP file give.
use Rattle.std.specs.Prelude.{ℕ, ◌≡◌, ◌≢◌, ◌⊎◌, ◌+◌, ◌-◌, ◌*◌, ◌/◌, ◌%◌, ◌^◌, ◌<◌, ◌≤◌, ◌==◌, max, if◌then◌else◌, nat_lt, List, [], ◌∷◌, ◌++◌, length, replicate, All, Option, Some, None, option_map, codes, decimal}
use Rattle.pico_board.specs.Content.{Content}
use Rattle.pico_board.specs.Rows.{IsFirstWide}
use Rattle.block_codec.specs.Words.{words_of}
use Rattle.boot_script.specs.declared.event.ScriptFault.TheVariants.{Kind, Short, Pattern}
use Rattle.boot_script.specs.declared.event.ScriptError.{ScriptError}
use Rattle.boot_script.specs.declared.event.ScriptError.TheVariants.{TooLarge, Record, TooMany}
use Rattle.boot_script.specs.declared.limits.TheConstants.{SCRIPT_LIMIT}
use Rattle.boot_script.specs.Judging.{IsScript, IsScriptError, script_error}
use Rattle.check_require.specs.Requires.{RequireView}
use Rattle.check_require.specs.Texts.{IsRequireText, require_read}
use Rattle.cli_inputs.specs.declared.forms.Form.{Form}
use Rattle.cli_inputs.specs.declared.forms.Form.TheVariants.{Flash, Otp, Script, Pattern, Require, Binary, Spec, Json, OtpText, Image, SourceImage, Elf, Uf2, Text}
use Rattle.cli_inputs.specs.declared.limits.TheConstants.{FLASH_LIMIT, OTP_LIMIT, PATTERN_LIMIT, BINARY_LIMIT, JSON_LIMIT, IMAGE_LIMIT, ELF_LIMIT, UF2_LIMIT, TEXT_LIMIT}
use Rattle.image_pack.specs.declared.spec.SealSpec.{SealSpec}
use Rattle.part_table.specs.declared.table.Table.{Table}
use Rattle.table_json.specs.Otps.{OtpView}
use Rattle.text_words.specs.Writing.{hex_row}
use Rattle.cli_inputs.specs.Asks.{IsAskFault, ask_fault}
use Rattle.cli_inputs.specs.Jsons.{IsSpecText, IsTableText, IsOtpText, IsSpecFault, IsTableFault, IsOtpFault, IsTextFault, spec_read, table_read, otp_read, read_fault}

-- why bytes are no script, by the offset of the first faulty record where there is one
abbrev pub script_text : ScriptError → List ℕ
script_text TooLarge = codes "too-large"
script_text (Record (Kind at)) = codes "script kind at=" ++ decimal at
script_text (Record (Short at)) = codes "script short at=" ++ decimal at
script_text (Record (Pattern at)) = codes "script pattern at=" ++ decimal at
script_text TooMany = codes "script too-many"

-- the greatest length of a file of the form, in bytes
abbrev pub limit_of : Form → ℕ
limit_of Flash = FLASH_LIMIT
limit_of Otp = OTP_LIMIT
limit_of Script = SCRIPT_LIMIT
limit_of Pattern = PATTERN_LIMIT
limit_of Require = JSON_LIMIT
limit_of Binary = BINARY_LIMIT
limit_of Spec = JSON_LIMIT
limit_of Json = JSON_LIMIT
limit_of OtpText = JSON_LIMIT
limit_of Image = IMAGE_LIMIT
limit_of SourceImage = IMAGE_LIMIT
limit_of Elf = ELF_LIMIT
limit_of Uf2 = UF2_LIMIT
limit_of Text = TEXT_LIMIT

-- the rows of an OTP file: each word of four bytes is one, the lowest byte first
abbrev pub rows_of : List ℕ → List ℕ
rows_of bytes = words_of bytes

-- the bytes are whole blocks of 512 bytes, and at least one
abbrev pub AreWholeUf2Blocks : List ℕ → Type 0
AreWholeUf2Blocks bytes = (bytes ≢ []) × (length bytes % 512 ≡ 0)

-- a file has its form:
-- - a flash file, and an image of which a script takes bytes, is not empty
-- - an OTP file is of whole rows of 24 bits
-- - a script has an end among its first records, with no fault before the end
-- - a pattern is not empty
-- - a JSON text gives a spec, a table, an OTP or what is asked of an update
-- - a UF2 file is of whole blocks
-- - no file is too long; a binary, an image, an ELF file and the text of a script have no other
--   condition
abbrev pub HasForm : Form → List ℕ → Type 0
HasForm Flash bytes = (bytes ≢ []) × (length bytes ≤ FLASH_LIMIT)
HasForm Otp bytes =
    (length bytes ≤ OTP_LIMIT) × (length bytes % 4 ≡ 0) × All (λ row. row < 2 ^ 24) (rows_of bytes)
HasForm Script bytes = IsScript bytes
HasForm Pattern bytes = (bytes ≢ []) × (length bytes ≤ PATTERN_LIMIT)
HasForm SourceImage bytes = (bytes ≢ []) × (length bytes ≤ IMAGE_LIMIT)
HasForm Spec bytes = (length bytes ≤ JSON_LIMIT) × ((spec : SealSpec) × IsSpecText bytes spec)
HasForm Json bytes = (length bytes ≤ JSON_LIMIT) × ((table : Table) × IsTableText bytes table)
HasForm OtpText bytes = (length bytes ≤ JSON_LIMIT) × ((spec : OtpView) × IsOtpText bytes spec)
HasForm Require bytes =
    (length bytes ≤ JSON_LIMIT) × ((ask : RequireView) × IsRequireText bytes ask)
HasForm Uf2 bytes = (length bytes ≤ UF2_LIMIT) × AreWholeUf2Blocks bytes
HasForm form bytes = length bytes ≤ limit_of form

-- a file is too long, and this is its fault
abbrev pub IsTooLarge : Form → List ℕ → List ℕ → Type 0
IsTooLarge form bytes fault = (limit_of form < length bytes) × (fault ≡ codes "too-large")

-- the fault of a file that is not too long:
-- - a flash file, or an image of which a script takes bytes, is empty
-- - an OTP file has a part of a row at its end, or a row of more than 24 bits; the lowest such row
--   is named
-- - a script has a fault among its first records, or these have neither a fault nor an end
-- - a pattern is empty
-- - a JSON text has the first fault by the rules of a spec, a table, an OTP or what is asked of an
--   update
-- - a UF2 file is not of whole blocks
-- - a binary, an image, an ELF file and a text have no fault
abbrev pub IsOwnFault : Form → List ℕ → List ℕ → Type 0
IsOwnFault Flash bytes fault = (bytes ≡ []) × (fault ≡ codes "empty")
IsOwnFault Otp bytes fault =
    ((length bytes % 4 ≢ 0) × (fault ≡ codes "otp-length"))
    ⊎ ((length bytes % 4 ≡ 0) × (row : ℕ) × IsFirstWide (rows_of bytes) row
    × (fault ≡ codes "otp-row " ++ hex_row row))
IsOwnFault Script bytes text =
    (error : ScriptError) × IsScriptError bytes error × (text ≡ script_text error)
IsOwnFault Pattern bytes fault = (bytes ≡ []) × (fault ≡ codes "pattern-length")
IsOwnFault SourceImage bytes fault = (bytes ≡ []) × (fault ≡ codes "empty")
IsOwnFault Spec bytes fault = IsTextFault IsSpecFault bytes fault
IsOwnFault Json bytes fault = IsTextFault IsTableFault bytes fault
IsOwnFault OtpText bytes fault = IsTextFault IsOtpFault bytes fault
IsOwnFault Require bytes fault = IsAskFault bytes fault
IsOwnFault Uf2 bytes fault = (AreWholeUf2Blocks bytes → ⊥) × (fault ≡ codes "uf2-length")
IsOwnFault _ bytes fault = ⊥

-- why a file does not have its form: a file that is too long comes first
abbrev pub IsFormFault : Form → List ℕ → List ℕ → Type 0
IsFormFault form bytes fault =
    IsTooLarge form bytes fault ⊎ ((length bytes ≤ limit_of form) × IsOwnFault form bytes fault)

-- the lowest row that has more than 24 bits, counted from a first number
abbrev pub wide_from : ℕ → List ℕ → Option ℕ
wide_from n [] = None
wide_from n (row ∷ rows) = if nat_lt row (2 ^ 24) then wide_from (n + 1) rows else Some n

-- the fault of an OTP file that is not too long, as a function
abbrev pub otp_fault : List ℕ → Option (List ℕ)
otp_fault bytes =
    if length bytes % 4 == 0
    then option_map (λ row. codes "otp-row " ++ hex_row row) (wide_from 0 (rows_of bytes))
    else Some (codes "otp-length")

-- the fault of a UF2 file that is not too long, as a function
abbrev pub uf2_fault : List ℕ → Option (List ℕ)
uf2_fault [] = Some (codes "uf2-length")
uf2_fault (b ∷ bytes) =
    if length (b ∷ bytes) % 512 == 0 then None else Some (codes "uf2-length")

-- the fault of a file of each form that is not too long
abbrev pub own_fault : Form → List ℕ → Option (List ℕ)
own_fault Flash [] = Some (codes "empty")
own_fault Flash (b ∷ bytes) = None
own_fault Otp bytes = otp_fault bytes
own_fault Script bytes = option_map script_text (script_error bytes)
own_fault Pattern [] = Some (codes "pattern-length")
own_fault Pattern (b ∷ bytes) = None
own_fault SourceImage [] = Some (codes "empty")
own_fault SourceImage (b ∷ bytes) = None
own_fault Spec bytes = read_fault (spec_read bytes)
own_fault Json bytes = read_fault (table_read bytes)
own_fault OtpText bytes = read_fault (otp_read bytes)
own_fault Require bytes = ask_fault (require_read bytes)
own_fault Uf2 bytes = uf2_fault bytes
own_fault _ bytes = None

-- the fault of a file
abbrev pub form_fault : Form → List ℕ → Option (List ℕ)
form_fault form bytes =
    if nat_lt (limit_of form) (length bytes) then Some (codes "too-large") else own_fault form bytes

-- the length of the flash that a file of n bytes gives: whole sectors of 4096 bytes, and at least
-- two
abbrev pub filled_length : ℕ → ℕ
filled_length n = max 8192 (4096 * ((n + 4095) / 4096))

-- the flash that a file gives: its bytes, filled with 0xff
unfoldable pub filled_flash : List ℕ → List ℕ
filled_flash bytes = bytes ++ replicate (filled_length (length bytes) - length bytes) 255

-- the 4096 rows that an OTP file gives: its rows, and 0 where it has none
unfoldable pub otp_of : List ℕ → List ℕ
otp_of bytes = rows_of bytes ++ replicate (4096 - length (rows_of bytes)) 0

-- the content that a flash file and an OTP file give
abbrev pub content_of_files : List ℕ → List ℕ → Content
content_of_files flash otp = record { flash = filled_flash flash; otp = otp_of otp }
