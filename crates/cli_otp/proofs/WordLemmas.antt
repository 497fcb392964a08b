-- The rows that are set one after the other are those of the OTP.
use Rattle.std.proofs.Common.{◌≡◌, ◌≢◌, ℕ, zero, suc, ◌+◌, ◌-◌, ◌<◌, ◌≤◌, ◌==◌, ◌&&◌, nat_le, nat_lt, Bool, true, false, not, cond, if◌then◌else◌, Result, IfOk, List, [], ◌∷◌, ◌++◌, length, get_or, map, count_by, replicate, refl, sym, ap, subst, ◌∙◌, arith, inl, inr}
use Rattle.std.specs.Prelude.{◌⊎◌, slice_index, slice_set}
use Rattle.std.specs.List.{range_with_len}
use Rattle.std.proofs.lemmas.Bool.{cases_eq, cases_lt, le-leb, le-ltb, lt-leb, lt-ltb, ne_eqb}
use Rattle.std.proofs.lemmas.Bool.Decides.{nat_tests}
use Rattle.std.proofs.lemmas.List.{length-set, get_or-set_other, get_or-replicate, get_or_past, length-replicate}
use Rattle.std.proofs.lemmas.Grind.{get_or-set_at}
use Rattle.std.proofs.lemmas.List.Sums.{sum_by-cons}
use Rattle.std.proofs.lemmas.List.FromFn.{fill_by_all, get_or-map-range_with_len, length-map-range_with_len}
use Rattle.otp_roll.specs.declared.flags.TheConstants.{BOOT_FLAGS, SLOT_SIZE_ROW}
use Rattle.table_json.specs.declared.otps.OtpRow.{OtpRow}
use Rattle.table_json.specs.Otps.{OtpView}
use Rattle.cli_otp.specs.OtpWords.{flag_word, listed, listed_from, otp_words, row_word, set_count, unlisted}
use Rattle.cli_otp.specs.Setting.{first_bits, flags_set, rows_set, secure_set}

pub same_eqb : (k row : ℕ) → k ≡ row → (k == row) ≡ true
same_eqb k row same = grind (arith, nat_tests, same)

-- a row after one is set
set-at : (words : List ℕ) (row value k : ℕ) → k < length words
    → get_or (slice_set words row value) k 0 ≡ (if k == row then value else get_or words k 0)
set-at words row value k within = by_row (cases_eq k row)
  where
    by_row : (k ≡ row) ⊎ (k ≢ row)
        → get_or (slice_set words row value) k 0 ≡ (if k == row then value else get_or words k 0)
    by_row (inl same) =
        get_or-set_at words row k value 0 same (omega (arith, within, same))
        ∙ sym (ap (λ t. cond t value (get_or words k 0)) (same_eqb k row same))
    by_row (inr other) =
        get_or-set_other words row k value 0 other
        ∙ sym (ap (λ t. cond t value (get_or words k 0)) (ne_eqb k row other))

pub set-long : (words : List ℕ) (pairs : List OtpRow) → length (rows_set words pairs) ≡ length words
set-long words [] = refl
set-long words (pair ∷ pairs) =
    set-long (slice_set words pair.row pair.value) pairs ∙ length-set words pair.row pair.value

-- a row after the listed ones are set
pub listed-at : (words : List ℕ) (pairs : List OtpRow) (k : ℕ) → k < length words
    → get_or (rows_set words pairs) k 0 ≡ listed_from (get_or words k 0) pairs k
listed-at words [] k within = refl
listed-at words (pair ∷ pairs) k within =
    let long = length-set words pair.row pair.value in
    listed-at (slice_set words pair.row pair.value) pairs k (omega (arith, within, long))
    ∙ ap (λ v. listed_from v pairs k) (set-at words pair.row pair.value k within)

-- bit 0 in so many rows from one on, row by row
module _ (words : List ℕ) (row count place : ℕ) where
  pub bits-more : place < count
      → rows_set words (first_bits (row + place) (count - place))
      ≡ rows_set (slice_set words (row + place) 1) (first_bits (row + (place + 1)) (count - (place + 1)))
  bits-more below =
      let more : count - place ≡ suc (count - (place + 1)) = omega (arith, below) in
      let next : row + place + 1 ≡ row + (place + 1) = omega arith in
      ap (λ n. rows_set words (first_bits (row + place) n)) more
      ∙ ap (λ at. rows_set (slice_set words (row + place) 1) (first_bits at (count - (place + 1)))) next

  pub bits-end : count ≤ place → rows_set words (first_bits (row + place) (count - place)) ≡ words
  bits-end past =
      let none : count - place ≡ 0 = omega (arith, past) in
      ap (λ n. rows_set words (first_bits (row + place) n)) none

-- the value of a row by those behind the first
abbrev bits-rest : ℕ → ℕ → ℕ → ℕ → ℕ
bits-rest row count k value = cond (nat_le (row + 1) k && nat_lt k (row + 1 + count)) 1 value

-- which rows these are
bits-at : (row count value k : ℕ)
    → listed_from value (first_bits row count) k ≡ cond (nat_le row k && nat_lt k (row + count)) 1 value
bits-at row zero value k = by_place (cases_lt k row)
  where
    by_place : (k < row) ⊎ (row ≤ k) → value ≡ cond (nat_le row k && nat_lt k (row + 0)) 1 value
    by_place (inl below) = sym (ap (λ t. cond (t && nat_lt k (row + 0)) 1 value) (lt-leb row k below))
    by_place (inr past) =
        sym (ap (λ t. cond (t && nat_lt k (row + 0)) 1 value) (le-leb row k past)
        ∙ ap (λ t. cond t 1 value) (le-ltb k (row + 0) (omega (arith, past))))
bits-at row (suc count) value k = bits-at (row + 1) count (cond (k == row) 1 value) k ∙ by_place (cases_eq k row)
  where
    same-ends : nat_lt k (row + 1 + count) ≡ nat_lt k (row + suc count)
    same-ends = let ends : row + 1 + count ≡ row + suc count = omega arith in ap (λ n. nat_lt k n) ends

    by_place : (k ≡ row) ⊎ (k ≢ row)
        → bits-rest row count k (cond (k == row) 1 value) ≡ cond (nat_le row k && nat_lt k (row + suc count)) 1 value
    by_place (inl same) =
        ap (λ t. bits-rest row count k (cond t 1 value)) (same_eqb k row same)
        ∙ ap (λ t. cond (t && nat_lt k (row + 1 + count)) 1 1) (lt-leb (row + 1) k (omega (arith, same)))
        ∙ sym (ap (λ t. cond (t && nat_lt k (row + suc count)) 1 value) (le-leb row k (omega (arith, same)))
        ∙ ap (λ t. cond t 1 value) (lt-ltb k (row + suc count) (omega (arith, same))))
    by_place (inr other) =
        ap (λ t. bits-rest row count k (cond t 1 value)) (ne_eqb k row other) ∙ by_side (cases_lt k row)
      where
        by_side : (k < row) ⊎ (row ≤ k)
            → bits-rest row count k value ≡ cond (nat_le row k && nat_lt k (row + suc count)) 1 value
        by_side (inl below) =
            ap (λ t. cond (t && nat_lt k (row + 1 + count)) 1 value) (lt-leb (row + 1) k (omega (arith, below)))
            ∙ sym (ap (λ t. cond (t && nat_lt k (row + suc count)) 1 value) (lt-leb row k below))
        by_side (inr past) =
            ap (λ t. cond (t && nat_lt k (row + 1 + count)) 1 value)
            (le-leb (row + 1) k (omega (arith, past, other)))
            ∙ ap (λ t. cond t 1 value) same-ends
            ∙ sym (ap (λ t. cond (t && nat_lt k (row + suc count)) 1 value) (le-leb row k past))

-- a count over values that are made of numbers
count-map : (p : ℕ → Bool) (f : ℕ → ℕ) (ks : List ℕ) → count_by p (map f ks) ≡ count_by (λ k. p (f k)) ks
count-map p f [] = refl
count-map p f (k ∷ ks) =
    sum_by-cons (λ x. cond (p x) 1 0) (f k) (map f ks)
    ∙ ap (λ n. cond (p (f k)) 1 0 + n) (count-map p f ks)
    ∙ sym (sum_by-cons (λ x. cond (p (f x)) 1 0) k ks)

module _ (n : ℕ) where
  abbrev clear : List ℕ
  clear = replicate n 0

  clear-long : length (replicate {A = ℕ} n 0) ≡ n
  clear-long = length-replicate n 0

  pub listed-words : (pairs : List OtpRow) → rows_set (replicate n 0) pairs ≡ map (listed pairs) (range_with_len 0 n)
  listed-words pairs =
      fill_by_all (listed pairs) (rows_set (replicate n 0) pairs) n 0 (set-long (replicate n 0) pairs ∙ clear-long)
      (λ k within. listed-at (replicate n 0) pairs k (omega (arith, within, clear-long))
      ∙ ap (λ v. listed_from v pairs k) (get_or-replicate n k 0 0 within))

  -- the rows before any is listed
  first-long : (secure : Bool) → length (secure_set (replicate n 0) secure) ≡ n
  first-long true = set-long (replicate n 0) (first_bits 0x040 8) ∙ clear-long
  first-long false = clear-long

  first-at : (secure : Bool) (k : ℕ) → k < n → get_or (secure_set (replicate n 0) secure) k 0 ≡ unlisted secure k
  first-at true k within =
      listed-at (replicate n 0) (first_bits 0x040 8) k (omega (arith, within, clear-long))
      ∙ bits-at 0x040 8 (get_or (replicate n 0) k 0) k
      ∙ ap (λ v. cond (nat_le 0x040 k && nat_lt k 0x048) 1 v) (get_or-replicate n k 0 0 within)
  first-at false k within = get_or-replicate n k 0 0 within

  pub all-words : (spec : OtpView)
      → flags_set (rows_set (secure_set (replicate n 0) spec.secure_boot) spec.rows) spec
      ≡ map (row_word spec) (range_with_len 0 n)
  all-words spec =
      let bare = secure_set (replicate n 0) spec.secure_boot in
      let bare-long : length bare ≡ n = first-long spec.secure_boot in
      let words = rows_set bare spec.rows in
      let flags = flag_word spec.rollback_required spec.flash_off in
      let sized = slice_set words SLOT_SIZE_ROW spec.slot_exponent in
      let long : length words ≡ n = set-long bare spec.rows ∙ bare-long in
      let first : length sized ≡ n = length-set words SLOT_SIZE_ROW spec.slot_exponent ∙ long in
      fill_by_all (row_word spec) (slice_set sized BOOT_FLAGS flags) n 0
      (length-set sized BOOT_FLAGS flags ∙ first)
      (λ k within. set-at sized BOOT_FLAGS flags k (omega (arith, within, first))
      ∙ ap (λ v. if k == BOOT_FLAGS then flags else v)
      (set-at words SLOT_SIZE_ROW spec.slot_exponent k (omega (arith, within, long))
      ∙ ap (λ v. if k == SLOT_SIZE_ROW then spec.slot_exponent else v)
      (listed-at bare spec.rows k (omega (arith, within, bare-long))
      ∙ ap (λ v. listed_from v spec.rows k) (first-at spec.secure_boot k within))))

  pub counted : (pairs : List OtpRow) → count_by (λ word. not (word == 0)) (rows_set (replicate n 0) pairs)
      ≡ count_by (λ row. not (listed pairs row == 0)) (range_with_len 0 n)
  counted pairs =
      ap (λ words. count_by (λ word. not (word == 0)) words) (listed-words pairs)
      ∙ count-map (λ word. not (word == 0)) (listed pairs) (range_with_len 0 n)

pub words-are : (spec : OtpView)
    → flags_set (rows_set (secure_set (replicate 4096 0) spec.secure_boot) spec.rows) spec ≡ otp_words spec
unfolding otp_words
words-are spec = all-words 4096 spec

pub count-is : (pairs : List OtpRow)
    → count_by (λ word. not (word == 0)) (rows_set (replicate 4096 0) pairs) ≡ set_count pairs
unfolding set_count
count-is pairs = counted 4096 pairs

-- a row of the OTP
pub word-at : (spec : OtpView) (row : ℕ) → row < 4096 → slice_index (otp_words spec) row ≡ row_word spec row
unfolding otp_words
word-at spec row within = get_or-map-range_with_len (row_word spec) 0 4096 row row 0 within (omega arith)

pub word-past : (spec : OtpView) (row : ℕ) → 4096 ≤ row → slice_index (otp_words spec) row ≡ 0
unfolding otp_words
word-past spec row past =
    let long = length-map-range_with_len (row_word spec) 0 4096 in
    get_or_past (map (row_word spec) (range_with_len 0 4096)) row 0 (omega (arith, past, long))

pub words-long : (spec : OtpView) → length (otp_words spec) ≡ 4096
unfolding otp_words
words-long spec = length-map-range_with_len (row_word spec) 0 4096

-- what is set one after the other: the rows of secure boot, the listed ones, and the settings
pub words-set : (clear bare listed new : List ℕ) (pairs : List OtpRow) (spec : OtpView) → clear ≡ replicate 4096 0
    → bare ≡ secure_set clear spec.secure_boot → pairs ≡ spec.rows → listed ≡ rows_set bare pairs
    → new ≡ flags_set listed spec → new ≡ otp_words spec
words-set clear bare listed new pairs spec none secure same rows is =
    is
    ∙ ap (λ (ws : List ℕ). flags_set ws spec)
    (rows
    ∙ ap (λ (ps : List OtpRow). rows_set bare ps) same
    ∙ ap (λ (ws : List ℕ). rows_set ws spec.rows)
    (secure ∙ ap (λ (ws : List ℕ). secure_set ws spec.secure_boot) none))
    ∙ words-are spec

-- a text of what is told, where this is the same
pub told-line : {T E : Type 0} (r : Result T E) (text : T → List ℕ) (told same rest other : List ℕ) → told ≡ same
    → rest ≡ other → IfOk r (λ t. text t ≡ told ++ rest) → IfOk r (λ t. text t ≡ same ++ other)
told-line r text told same rest other is ends done =
    subst (λ (xs : List ℕ). IfOk r (λ t. text t ≡ same ++ xs)) ends
    (subst (λ (xs : List ℕ). IfOk r (λ t. text t ≡ xs ++ rest)) is done)
