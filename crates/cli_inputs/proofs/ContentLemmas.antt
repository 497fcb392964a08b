-- Every content is that of two files.
use Rattle.std.proofs.Common.{ℕ, ◌≡◌, ◌+◌, ◌-◌, ◌*◌, ◌%◌, ◌^◌, ◌<◌, ◌≤◌, max, List, [], ◌++◌, length, replicate, All, refl, sym, ◌∙◌, ap, subst, arith}
use Rattle.std.proofs.lemmas.List.{append-nil, length-append, length-replicate}
use Rattle.std.proofs.lemmas.List.Elements.{All-append, All-replicate, recursion_from_All}
use Rattle.pico_board.specs.declared.window.TheConstants.{MOST_FLASH_BYTES}
use Rattle.pico_board.specs.Content.{Content, IsContent, IsFlashLength}
use Rattle.block_codec.specs.Words.{bytes_of, words_of, AreWords}
use Rattle.block_codec.proofs.WordLemmas.{words_of-append, length-bytes_of, length-words_of}
use Rattle.image_pack.specs.Faults.{zero_otp}
use Rattle.cli_course.specs.Outcomes.{AreBytes}
use Rattle.cli_inputs.specs.declared.forms.Form.TheVariants.{Flash, Otp}
use Rattle.cli_inputs.specs.Forms.{HasForm, rows_of, filled_length, filled_flash, otp_of, content_of_files}

-- rows written as bytes are read back
rows-back : (rows : List ℕ) → All (λ row. row < 2 ^ 24) rows → rows_of (bytes_of rows) ≡ rows
rows-back rows narrow =
    let words : AreWords rows =
    recursion_from_All (λ w. w < 2 ^ 32) rows (λ k d lt. let small = narrow k d lt in omega arith) in
    ap words_of (sym (append-nil (bytes_of rows))) ∙ (words_of-append rows [] words ∙ append-nil rows)

pub flash-back : (flash : List ℕ) → length flash % 4096 ≡ 0 → 8192 ≤ length flash → filled_flash flash ≡ flash
unfolding filled_flash
flash-back flash whole least =
    let none : filled_length (length flash) - length flash ≡ 0 = omega arith in
    ap (λ n. flash ++ replicate n 255) none ∙ append-nil flash

otp-back : (rows : List ℕ) → All (λ row. row < 2 ^ 24) rows → length rows ≡ 4096 → otp_of (bytes_of rows) ≡ rows
unfolding otp_of
otp-back rows narrow long =
    let back = rows-back rows narrow in
    let none : 4096 - length rows ≡ 0 = omega arith in
    ap (λ xs. xs ++ replicate (4096 - length xs) 0) back ∙ (ap (λ n. rows ++ replicate n 0) none ∙ append-nil rows)

-- an OTP file of no byte gives an OTP of zeros
pub zero-rows : otp_of [] ≡ zero_otp
unfolding otp_of zero_otp
zero-rows = refl

abbrev pub IsGiven : Content → Type 0
IsGiven c = (f : List ℕ) × (g : List ℕ) × HasForm Flash f × HasForm Otp g × (content_of_files f g ≡ c)

pub given : (c : Content) → IsContent c → IsGiven c
given c is =
    let long : length (bytes_of c.otp) ≡ 16384 = length-bytes_of c.otp ∙ ap (λ n. 4 * n) is.otp_length in
    let narrow : All (λ row. row < 2 ^ 24) (rows_of (bytes_of c.otp)) =
    subst (All (λ row. row < 2 ^ 24)) (sym (rows-back c.otp is.otp_rows)) is.otp_rows in
    let least = is.flash_length.least in let most = is.flash_length.most in (
      c.flash,
      bytes_of c.otp,
      (λ e. let none : length c.flash ≡ 0 = ap (λ (xs : List ℕ). length xs) e in absurd (omega arith), most),
      (omega arith, omega arith, narrow),
      ap (λ flash. record { flash = flash; otp = otp_of (bytes_of c.otp) })
          (flash-back c.flash is.flash_length.whole least)
          ∙ ap (λ otp. record { flash = c.flash; otp = otp }) (otp-back c.otp is.otp_rows is.otp_length),
    )

-- the flash that a file gives has whole sectors, and its OTP has all rows
pub filled-long : (flash : List ℕ) → length (filled_flash flash) ≡ max (length flash) (filled_length (length flash))
unfolding filled_flash
filled-long flash =
    length-append flash (replicate (filled_length (length flash) - length flash) 255)
    ∙ (ap (λ n. length flash + n) (length-replicate (filled_length (length flash) - length flash) 255) ∙ omega arith)

otp-long : (otp : List ℕ) → length otp ≤ 16384 → length (otp_of otp) ≡ 4096
unfolding otp_of
otp-long otp few =
    let n = length-words_of otp in
    length-append (rows_of otp) (replicate (4096 - length (rows_of otp)) 0)
    ∙ (ap (λ n. length (rows_of otp) + n) (length-replicate (4096 - length (rows_of otp)) 0) ∙ omega arith)

otp-narrow : (otp : List ℕ) → All (λ row. row < 2 ^ 24) (rows_of otp) → All (λ row. row < 2 ^ 24) (otp_of otp)
unfolding otp_of
otp-narrow otp narrow =
    All-append (λ row. row < 2 ^ 24) (rows_of otp) (replicate (4096 - length (rows_of otp)) 0) narrow
    (All-replicate (λ row. row < 2 ^ 24) (4096 - length (rows_of otp)) 0 (omega arith))

-- a flash that is filled is of bytes
pub filled-bytes : (flash : List ℕ) → AreBytes flash → AreBytes (filled_flash flash)
unfolding filled_flash
filled-bytes flash small =
    All-append (λ b. b < 256) flash (replicate (filled_length (length flash) - length flash) 255) small
    (All-replicate (λ b. b < 256) (filled_length (length flash) - length flash) 255 (omega arith))

filled-whole : (flash : List ℕ) → length flash ≤ MOST_FLASH_BYTES → IsFlashLength (length (filled_flash flash))
filled-whole flash few =
    let long = filled-long flash in record { whole = omega arith; least = omega arith; most = omega arith }

-- files of bytes that have their forms give a content
pub formed-content : (f g : List ℕ) → HasForm Flash f → HasForm Otp g → AreBytes f → IsContent (content_of_files f g)
formed-content f g flash otp small = record {
  flash_length = filled-whole f flash.1;
  flash_bytes = filled-bytes f small;
  otp_length = otp-long g otp.0;
  otp_rows = otp-narrow g otp.2;
}
