-- What stands in the rows of an OTP, and what is read of them.
use Rattle.std.proofs.Common.{◌≡◌, ◌≢◌, ℕ, ◌-◌, ◌*◌, ◌/◌, ◌%◌, ◌^◌, ◌<◌, ◌≤◌, ◌==◌, ◌&&◌, Bool, true, false, cond, nat_le, nat_lt, List, [], ◌∷◌, ◌++◌, length, All, replicate, refl, sym, ap, subst, ◌∙◌, arith, inl, inr, append-nil}
use Rattle.std.specs.Prelude.{◌⊎◌, slice_index}
use Rattle.std.specs.List.{AllByRecursion}
use Rattle.std.proofs.lemmas.Bool.{cases_lt, le-leb, le-ltb, lt-leb, lt-ltb, ne_eqb}
use Rattle.std.proofs.lemmas.List.FromFn.{get_or-map-range_with_len}
use Rattle.std.proofs.lemmas.List.Elements.{recursion_from_All}
use Rattle.std.proofs.Math.Seq.{get_or-append_seam}
use Rattle.pico_board.specs.declared.boot.Cpu.{Cpu}
use Rattle.pico_board.specs.declared.boot.BootKind.{BootKind}
use Rattle.pico_board.specs.Content.{Content}
use Rattle.block_codec.specs.Words.{AreWords, bytes_of, words_of}
use Rattle.block_codec.proofs.WordLemmas.{length-bytes_of, words_of-append}
use Rattle.otp_roll.specs.Flags.{flash_off, rollback_required, slot_size, slot_size_of}
use Rattle.boot_reasons.specs.declared.reasons.Reasons.{Reasons}
use Rattle.boot_reasons.specs.Rules.{IsExplained}
use Rattle.text_lines.specs.Texts.{decision_line}
use Rattle.table_json.specs.declared.otps.OtpRow.{OtpRow}
use Rattle.table_json.specs.Otps.{OtpView}
use Rattle.table_json.specs.OtpRules.{IsListedRow, IsSound}
use Rattle.cli_course.specs.Outcomes.{line}
use Rattle.cli_explain.specs.Texts.{explain_text, otp_text, tables_lines, units_lines}
use Rattle.cli_inputs.specs.declared.forms.Form.TheVariants.{Otp}
use Rattle.cli_inputs.specs.Forms.{HasForm, otp_of, rows_of}
use Rattle.cli_otp.specs.OtpWords.{flag_word, listed_from, otp_bytes, otp_words, row_word, told_text, unlisted}
use Rattle.cli_otp.proofs.WordLemmas.{same_eqb, word-at, word-past, words-long}

-- a row that no pair lists
listed-none : (pairs : List OtpRow) (value row : ℕ) → AllByRecursion (λ (pair : OtpRow). pair.row ≢ row) pairs
    → listed_from value pairs row ≡ value
listed-none [] value row none = refl
listed-none (pair ∷ pairs) value row (other, rest) =
    ap (λ t. listed_from (cond t pair.value value) pairs row)
    (ne_eqb row pair.row (λ (same : row ≡ pair.row). other (sym same)))
    ∙ listed-none pairs value row rest

-- first some pairs, and then others
listed-append : (xs ys : List OtpRow) (value row : ℕ)
    → listed_from value (xs ++ ys) row ≡ listed_from (listed_from value xs row) ys row
listed-append [] ys value row = refl
listed-append (pair ∷ xs) ys value row = listed-append xs ys (cond (row == pair.row) pair.value value) row

-- a listed value has 24 bits
listed-narrow : (pairs : List OtpRow) (value row : ℕ) → AllByRecursion IsListedRow pairs → value < 2 ^ 24
    → listed_from value pairs row < 2 ^ 24
listed-narrow [] value row all narrow = narrow
listed-narrow (pair ∷ pairs) value row (one, rest) narrow =
    listed-narrow pairs (cond (row == pair.row) pair.value value) row rest
    (either (row == pair.row) pair.value value one.narrow narrow)
  where
    either : (t : Bool) (a b : ℕ) → a < 2 ^ 24 → b < 2 ^ 24 → cond t a b < 2 ^ 24
    either true a b first second = first
    either false a b first second = second

-- what stands in a row that is not listed
pub unlisted-none : (secure : Bool) (row : ℕ) → (secure ≡ true → 0x040 ≤ row → row ≤ 0x047 → ⊥)
    → unlisted secure row ≡ 0
unlisted-none false row other = refl
unlisted-none true row other = by_side (cases_lt row 0x040) (cases_lt row 0x048)
  where
    by_side : (row < 0x040) ⊎ (0x040 ≤ row) → (row < 0x048) ⊎ (0x048 ≤ row) → unlisted true row ≡ 0
    by_side (inl below) side = ap (λ t. cond (t && nat_lt row 0x048) 1 0) (lt-leb 0x040 row below)
    by_side (inr least) (inl most) = absurd (other refl least (omega (arith, most)))
    by_side (inr least) (inr past) =
        ap (λ t. cond (t && nat_lt row 0x048) 1 0) (le-leb 0x040 row least)
        ∙ ap (λ t. cond t 1 0) (le-ltb row 0x048 past)

pub unlisted-one : (row : ℕ) → 0x040 ≤ row → row ≤ 0x047 → unlisted true row ≡ 1
unlisted-one row least most =
    ap (λ t. cond (t && nat_lt row 0x048) 1 0) (le-leb 0x040 row least)
    ∙ ap (λ t. cond t 1 0) (lt-ltb row 0x048 (omega (arith, most)))

unlisted-narrow : (secure : Bool) (row : ℕ) → unlisted secure row < 2 ^ 24
unlisted-narrow secure row = either (secure && (nat_le 0x040 row && nat_lt row 0x048))
  where
    either : (t : Bool) → cond t 1 0 < 2 ^ 24
    either true = omega arith
    either false = omega arith

-- a row that is neither of the two settings is the listed one, or one that is not listed
row-listed : (spec : OtpView) (row : ℕ) → row ≢ 0x048 → row ≢ 0x055
    → row_word spec row ≡ listed_from (unlisted spec.secure_boot row) spec.rows row
row-listed spec row flags size =
    let listed = listed_from (unlisted spec.secure_boot row) spec.rows row in
    ap (λ t. cond t (flag_word spec.rollback_required spec.flash_off) (cond (row == 0x055) spec.slot_exponent listed))
    (ne_eqb row 0x048 flags)
    ∙ ap (λ t. cond t spec.slot_exponent listed) (ne_eqb row 0x055 size)

pub row-unlisted : (spec : OtpView) (row : ℕ) → row < 4096 → row ≢ 0x048 → row ≢ 0x055
    → All (λ (pair : OtpRow). pair.row ≢ row) spec.rows
    → slice_index (otp_words spec) row ≡ unlisted spec.secure_boot row
row-unlisted spec row within flags size none =
    word-at spec row within ∙ row-listed spec row flags size
    ∙ listed-none spec.rows (unlisted spec.secure_boot row) row
    (recursion_from_All (λ (pair : OtpRow). pair.row ≢ row) spec.rows none)

pub row-none : (spec : OtpView) (row : ℕ) → row ≢ 0x048 → row ≢ 0x055
    → (spec.secure_boot ≡ true → 0x040 ≤ row → row ≤ 0x047 → ⊥)
    → All (λ (pair : OtpRow). pair.row ≢ row) spec.rows → slice_index (otp_words spec) row ≡ 0
row-none spec row flags size other none = by_place (cases_lt row 4096)
  where
    by_place : (row < 4096) ⊎ (4096 ≤ row) → slice_index (otp_words spec) row ≡ 0
    by_place (inl within) =
        row-unlisted spec row within flags size none ∙ unlisted-none spec.secure_boot row other
    by_place (inr past) = word-past spec row past

-- a row of secure boot
pub row-secure : (spec : OtpView) (row : ℕ) → spec.secure_boot ≡ true → 0x040 ≤ row → row ≤ 0x047
    → All (λ (pair : OtpRow). pair.row ≢ row) spec.rows → slice_index (otp_words spec) row ≡ 1
row-secure spec row secure least most none =
    row-unlisted spec row (omega (arith, most)) (λ same. omega (arith, most, same)) (λ same. omega (arith, most, same)) none
    ∙ ap (λ t. unlisted t row) secure ∙ unlisted-one row least most

-- a row below those that are listed, without secure boot
pub row-low : (spec : OtpView) (row : ℕ) → spec.secure_boot ≡ false
    → All (λ (pair : OtpRow). 0x0c0 ≤ pair.row) spec.rows → row < 0x0c0 → row ≢ 0x048 → row ≢ 0x055
    → slice_index (otp_words spec) row ≡ 0
row-low spec row secure high low flags size =
    row-none spec row flags size
    (λ on least most. let both : true ≡ false = sym on ∙ secure in cc)
    (λ k d within same. let least = high k d within in omega (arith, least, low, same))

pub row-last : (spec : OtpView) (before after : List OtpRow) (pair : OtpRow) → IsSound spec
    → spec.rows ≡ before ++ pair ∷ after → All (λ (other : OtpRow). other.row ≢ pair.row) after
    → slice_index (otp_words spec) pair.row ≡ pair.value
row-last spec before after pair sound is later =
    let all : All IsListedRow (before ++ pair ∷ after) = subst (All IsListedRow) is sound.listed in
    let here : IsListedRow pair =
    subst IsListedRow (get_or-append_seam before pair after pair)
    (all (length before) pair (seam before)) in
    let first = unlisted spec.secure_boot pair.row in
    word-at spec pair.row (omega (arith, here.most))
    ∙ row-listed spec pair.row here.flags here.size
    ∙ ap (λ pairs. listed_from first pairs pair.row) is
    ∙ listed-append before (pair ∷ after) first pair.row
    ∙ ap (λ t. listed_from (cond t pair.value (listed_from first before pair.row)) after pair.row)
    (same_eqb pair.row pair.row refl)
    ∙ listed-none after pair.value pair.row
    (recursion_from_All (λ (other : OtpRow). other.row ≢ pair.row) after later)
  where
    seam : (xs : List OtpRow) → length xs < length (xs ++ pair ∷ after)
    seam [] = omega arith
    seam (x ∷ xs) = let rest = seam xs in omega (arith, rest)

-- the two settings
pub flags-word : (spec : OtpView)
    → slice_index (otp_words spec) 0x048 ≡ flag_word spec.rollback_required spec.flash_off
flags-word spec = word-at spec 0x048 (omega arith)

pub size-word : (spec : OtpView) → slice_index (otp_words spec) 0x055 ≡ spec.slot_exponent
size-word spec = word-at spec 0x055 (omega arith)

flag-first : (required off : Bool) → (flag_word required off % 2 == 1) ≡ required
flag-first true true = refl
flag-first true false = refl
flag-first false true = refl
flag-first false false = refl

flag-second : (required off : Bool) → (flag_word required off / 2 % 2 == 1) ≡ off
flag-second true true = refl
flag-second true false = refl
flag-second false true = refl
flag-second false false = refl

flag-few : (required off : Bool) → flag_word required off / 4 ≡ 0
flag-few true true = refl
flag-few true false = refl
flag-few false true = refl
flag-few false false = refl

pub flags-back : (spec : OtpView)
    → (rollback_required (otp_words spec) ≡ spec.rollback_required)
    × (flash_off (otp_words spec) ≡ spec.flash_off)
flags-back spec = (
  ap (λ w. w % 2 == 1) (flags-word spec) ∙ flag-first spec.rollback_required spec.flash_off,
  ap (λ w. w / 2 % 2 == 1) (flags-word spec) ∙ flag-second spec.rollback_required spec.flash_off,
)

pub flags-few : (spec : OtpView) → slice_index (otp_words spec) 0x048 / 4 ≡ 0
flags-few spec = ap (λ w. w / 4) (flags-word spec) ∙ flag-few spec.rollback_required spec.flash_off

pub size-few : (spec : OtpView) → IsSound spec → slice_index (otp_words spec) 0x055 / 16 ≡ 0
size-few spec sound = let is = size-word spec in omega (arith, is, sound.size)

pub size-back : (spec : OtpView) (n : ℕ) → IsSound spec → 2 * (4096 * 2 ^ spec.slot_exponent) ≤ n
    → slot_size (otp_words spec) n ≡ 4096 * 2 ^ spec.slot_exponent
size-back spec n sound room =
    let is = size-word spec in
    let small : slice_index (otp_words spec) 0x055 % 16 ≡ spec.slot_exponent = omega (arith, is, sound.size) in
    ap (λ e. slot_size_of e n) small
    ∙ fits spec.slot_exponent sound.size room
  where
    fits : (e : ℕ) → e ≤ 11 → 2 * (4096 * 2 ^ e) ≤ n → slot_size_of e n ≡ 4096 * 2 ^ e
    fits e few room =
        ap (λ t. cond (t && nat_le (2 * (4096 * 2 ^ e)) n) (4096 * 2 ^ e) 4096) (le-leb e 11 few)
        ∙ ap (λ t. cond t (4096 * 2 ^ e) 4096) (le-leb (2 * (4096 * 2 ^ e)) n room)

-- each row has 24 bits
row-narrow : (spec : OtpView) (row : ℕ) → IsSound spec → row_word spec row < 2 ^ 24
row-narrow spec row sound =
    either (row == 0x048) (flag_word spec.rollback_required spec.flash_off) _
    (flag-narrow spec.rollback_required spec.flash_off)
    (either (row == 0x055) spec.slot_exponent (listed_from (unlisted spec.secure_boot row) spec.rows row)
    (omega (arith, sound.size))
    (listed-narrow spec.rows (unlisted spec.secure_boot row) row
    (recursion_from_All IsListedRow spec.rows sound.listed) (unlisted-narrow spec.secure_boot row)))
  where
    flag-narrow : (required off : Bool) → flag_word required off < 2 ^ 24
    flag-narrow required off = let few = flag-few required off in omega (arith, few)

    either : (t : Bool) (a b : ℕ) → a < 2 ^ 24 → b < 2 ^ 24 → cond t a b < 2 ^ 24
    either true a b first second = first
    either false a b first second = second

pub words-narrow : (spec : OtpView) → IsSound spec → All (λ row. row < 2 ^ 24) (otp_words spec)
unfolding otp_words
words-narrow spec sound k d within =
    let long = words-long spec in
    let is = get_or-map-range_with_len (row_word spec) 0 4096 k k d (omega (arith, within, long)) (omega arith) in
    subst (λ w. w < 2 ^ 24) (sym is) (row-narrow spec k sound)

-- the file
pub bytes-long : (spec : OtpView) → length (otp_bytes spec) ≡ 16384
bytes-long spec = length-bytes_of (otp_words spec) ∙ ap (λ n. 4 * n) (words-long spec)

pub rows-back : (spec : OtpView) → IsSound spec → rows_of (otp_bytes spec) ≡ otp_words spec
rows-back spec sound =
    let words : AreWords (otp_words spec) =
    recursion_from_All (λ w. w < 2 ^ 32) (otp_words spec)
    (λ k d within. let narrow = words-narrow spec sound k d within in omega (arith, narrow)) in
    ap words_of (sym (append-nil (bytes_of (otp_words spec))))
    ∙ (words_of-append (otp_words spec) [] words ∙ append-nil (otp_words spec))

pub file-back : (spec : OtpView) → IsSound spec → otp_of (otp_bytes spec) ≡ otp_words spec
unfolding otp_of
file-back spec sound =
    let long = words-long spec in
    let none : 4096 - length (otp_words spec) ≡ 0 = omega (arith, long) in
    ap (λ xs. xs ++ replicate (4096 - length xs) 0) (rows-back spec sound)
    ∙ (ap (λ n. otp_words spec ++ replicate n 0) none ∙ append-nil (otp_words spec))

pub file-formed : (spec : OtpView) → IsSound spec → HasForm Otp (otp_bytes spec)
file-formed spec sound =
    let long = bytes-long spec in (
      omega (arith, long),
      omega (arith, long),
      subst (All (λ row. row < 2 ^ 24)) (sym (rows-back spec sound)) (words-narrow spec sound),
    )

pub told-back : (c : Content) (cpu : Cpu) (kind : BootKind) (spec : OtpView) (r : Reasons) → IsSound spec
    → c.otp ≡ otp_words spec → 2 * (4096 * 2 ^ spec.slot_exponent) ≤ length c.flash → IsExplained c cpu kind r
    → (rest : List ℕ) × (explain_text r ≡ decision_line r.decision ++ (line (told_text spec) ++ rest))
told-back c cpu kind spec r sound otp room explained =
    let flags = flags-back spec in
    let required : r.required ≡ spec.rollback_required =
    explained.required ∙ (ap (λ o. rollback_required o) otp ∙ flags.0) in
    let off : r.off ≡ spec.flash_off = explained.off ∙ (ap (λ o. flash_off o) otp ∙ flags.1) in
    let size : r.size ≡ 4096 * 2 ^ spec.slot_exponent =
    explained.size ∙ (ap (λ o. slot_size o (length c.flash)) otp ∙ size-back spec (length c.flash) sound room) in
    let rest : List ℕ = tables_lines r ++ units_lines r.looks.items r.unreached in (
      rest,
      ap (λ (a : Bool). decision_line r.decision ++ (line (otp_text a r.off r.size) ++ rest)) required
          ∙ ap (λ (a : Bool). decision_line r.decision ++ (line (otp_text spec.rollback_required a r.size) ++ rest)) off
          ∙ ap (λ (n : ℕ). decision_line r.decision
          ++ (line (otp_text spec.rollback_required spec.flash_off n) ++ rest)) size,
    )
