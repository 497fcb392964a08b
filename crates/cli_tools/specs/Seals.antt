-- Why a binary is not sealed, as a function, and the texts of sealing.
use Rattle.std.specs.Prelude.{◌≡◌, ℕ, ◌+◌, ◌*◌, ◌==◌, ◌&&◌, ◌||◌, Bool, true, false, nat_le, nat_lt, if◌then◌else◌, List, [], ◌∷◌, ◌++◌, length, Option, None, Some, Result, Ok, Err, codes, decimal}
use Rattle.std.specs.Option.{option_or}
use Rattle.std.specs.List.{list_all}
use Rattle.image_def.specs.declared.started.Started.{Started}
use Rattle.otp_roll.specs.declared.rows.TheConstants.{FIRST_ROW, LAST_ROW}
use Rattle.image_check.specs.declared.why.Why.{Why}
use Rattle.image_check.specs.Addressing.{in_flash}
use Rattle.image_check.specs.Image.{image_in}
use Rattle.image_pack.specs.declared.spec.SealError.{SealError}
use Rattle.image_pack.specs.declared.spec.SealError.TheVariants.{BadSpec, Unsealable, TooLarge, BlockTooLong, NotBootable, Displaced, Memory}
use Rattle.image_pack.specs.declared.spec.SealSpec.{SealSpec}
use Rattle.image_pack.specs.declared.spec.SpecField.TheVariants.{Rollback, Rows}
use Rattle.image_def.specs.declared.images.TheConstants.{MOST_BLOCK_BYTES}
use Rattle.pico_board.specs.declared.window.TheConstants.{MOST_FLASH_BYTES}
use Rattle.image_pack.specs.Faults.{IsSealFault, new_block_size, block_offset, whole_window, zero_otp}
use Rattle.image_pack.specs.Filling.{whole_sectors}
use Rattle.image_pack.specs.Sealing.{parts_in, sealed_text}
use Rattle.cli_inputs.specs.Jsons.{IsSpecText}
use Rattle.text_words.specs.Writing.{hex_word}
use Rattle.text_lines.specs.Faults.{why_text}
use Rattle.cli_course.specs.Outcomes.{line}

-- a row may be listed
abbrev pub may_list : ℕ → Bool
may_list row = nat_le FIRST_ROW row && nat_le row LAST_ROW

-- the triples of two rows share no row
abbrev pub is_apart : ℕ → ℕ → Bool
is_apart row other = nat_le (row + 3) other || nat_le (other + 3) row

abbrev pub all_apart : List ℕ → Bool
all_apart [] = true
all_apart (row ∷ rows) = list_all (is_apart row) rows && all_apart rows

-- at most 32 rows may be listed, each of them, and all together
abbrev pub are_listed : List ℕ → Bool
are_listed rows = nat_le (length rows) 32 && (list_all may_list rows && all_apart rows)

-- a rollback version goes with its rows
abbrev pub goes_with : Option ℕ → List ℕ → Bool
goes_with None [] = true
goes_with None (row ∷ rows) = false
goes_with (Some version) [] = false
goes_with (Some version) (row ∷ rows) = nat_le version (24 * length (row ∷ rows))

-- the part of a spec that is wrong, the rows first
abbrev pub spec_error : SealSpec → Option SealError
spec_error spec =
    if are_listed spec.rows.items
    then if goes_with spec.rollback spec.rows.items then None else Some (BadSpec Rollback)
    else Some (BadSpec Rows)

-- a sealed image does not start, or another block than the one at this offset defines it
abbrev pub start_error : ℕ → Result Started Why → Option SealError
start_error at (Ok started) = if started.block == at then None else Some Displaced
start_error at (Err why) = Some (NotBootable why)

-- the image, alone in a window with an OTP of zeros and trial images allowed
abbrev pub alone : SealSpec → List ℕ → Result Started Why
alone spec image =
    image_in in_flash (whole_window image) spec.cpu true zero_otp (whole_sectors image)

-- the fault of the sealed image of a binary that may be sealed: the image or its new block is too
-- long, or the image does not start by its new block
abbrev pub sealed_error : List ℕ → SealSpec → Option SealError
sealed_error binary spec =
    if nat_lt MOST_FLASH_BYTES (length (sealed_text binary spec)) then Some TooLarge
    else if nat_lt MOST_BLOCK_BYTES (new_block_size binary spec)
    then Some (BlockTooLong (new_block_size binary spec))
    else start_error (block_offset binary) (alone spec (sealed_text binary spec))

-- the fault of a binary's sealed image where the binary has these parts; or the binary fails this
-- rule and may not be sealed
abbrev pub binary_error : {Parts : Type 0} → List ℕ → SealSpec → Result Parts Why
    → Option SealError
binary_error binary spec (Ok parts) = sealed_error binary spec
binary_error binary spec (Err why) = Some (Unsealable why)

-- the first fault of a binary and a spec, in the order of the errors
unfoldable pub seal_error : List ℕ → SealSpec → Option SealError
seal_error binary spec =
    option_or (spec_error spec)
    (binary_error binary spec (parts_in spec.cpu (whole_sectors binary)))

-- why a binary is not sealed; the last text is never the reason
abbrev pub seal_text : SealError → List ℕ
seal_text (BadSpec Rollback) = codes "bad-spec rollback"
seal_text (BadSpec Rows) = codes "bad-spec rows"
seal_text (Unsealable why) = codes "unsealable " ++ why_text why
seal_text TooLarge = codes "sealed-too-large"
seal_text (BlockTooLong size) = codes "block-too-long " ++ decimal size
seal_text (NotBootable why) = codes "not-bootable " ++ why_text why
seal_text Displaced = codes "displaced"
seal_text Memory = codes "memory"

-- the input that is refused for an error: the spec where it is wrong, or else the binary
abbrev pub blamed : List ℕ → List ℕ → SealError → List ℕ
blamed binary spec (BadSpec field) = spec
blamed binary spec error = binary

-- the line of a sealed image of so many bytes with its new block at this offset
abbrev pub sealed_line : ℕ → ℕ → List ℕ
sealed_line size block =
    codes "sealed bytes=" ++ (decimal size ++ (codes " block=" ++ line (hex_word block)))

-- a binary is refused by the spec that a text gives: this input is refused for its first fault,
-- with this text
pub record IsUnsealed (binary spec b s name fault : List ℕ) : Type 0 where
  pub asked : SealSpec
  pub says : IsSpecText s asked
  pub error : SealError
  pub wrong : IsSealFault b asked error
  pub blames : name ≡ blamed binary spec error
  pub tells : fault ≡ seal_text error
