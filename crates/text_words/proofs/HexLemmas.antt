-- Numbers of so many hexadecimal digits, padded with zeros, are their last digits.
use Rattle.std.proofs.Common.{◌≡◌, ℕ, zero, suc, ◌+◌, ◌-◌, ◌/◌, ◌%◌, ◌^◌, ◌<◌, ◌≤◌, ◌==◌, Bool, true, false, cond, List, [], ◌∷◌, ◌++◌, length, replicate, refl, sym, ap, subst, ◌∙◌, arith, append_assoc, append-nil, length-append, inl, inr}
use Rattle.std.specs.Fmt.{digits, digits_onto, digit_glyph, padded_integral, char_count, format_spec}
use Rattle.std.proofs.lemmas.Bool.{cases_eq, eq-eqb, ne_eqb}
use Rattle.std.proofs.lemmas.Grind.{replicate_next}
use Rattle.text_words.specs.Writing.{hex_digits}
use Rattle.text_words.specs.Digits.{low_digits}

pub length-low_digits : (k n : ℕ) → length (low_digits k n) ≡ k
unfolding low_digits
length-low_digits zero n = refl
length-low_digits (suc k) n =
    omega (arith, length-append (low_digits k (n / 16)) (digit_glyph false (n % 16) ∷ []), length-low_digits k (n / 16))

abbrev last_glyph : ℕ → ℕ
last_glyph n = digit_glyph false (n % 16)

low_more : (k n : ℕ) (acc : List ℕ) → low_digits (suc k) n ++ acc ≡ low_digits k (n / 16) ++ (last_glyph n ∷ acc)
unfolding low_digits
low_more k n acc = append_assoc (low_digits k (n / 16)) (last_glyph n ∷ []) acc

low_zeros : (k : ℕ) → low_digits k 0 ≡ replicate k 48
unfolding low_digits
low_zeros zero = refl
low_zeros (suc k) =
    let next : k + 1 ≡ suc k = omega arith in
    ap (λ ds. ds ++ (48 ∷ [])) (low_zeros k) ∙ sym (replicate_next k 48) ∙ ap (λ (m : ℕ). replicate m 48) next

onto_test : (i n : ℕ) (acc : List ℕ) (t : Bool) → (n / 16 == 0) ≡ t
    → digits_onto (suc i) 16 false n acc
    ≡ cond t (last_glyph n ∷ acc) (digits_onto i 16 false (n / 16) (last_glyph n ∷ acc))
onto_test i n acc t e =
    ap (λ (b : Bool). cond b (last_glyph n ∷ acc) (digits_onto i 16 false (n / 16) (last_glyph n ∷ acc))) e

-- the digits of a number behind as many zeros as they want of a width
abbrev pub filled : ℕ → List ℕ → List ℕ
filled width ds = replicate (width - length ds) 48 ++ ds

filled_last : (k n : ℕ) (acc : List ℕ) → n / 16 ≡ 0
    → filled (suc k + length acc) (last_glyph n ∷ acc) ≡ low_digits (suc k) n ++ acc
filled_last k n acc e =
    let zeros : suc k + length acc - length (last_glyph n ∷ acc) ≡ k = omega arith in
    rw (zeros, low_more k n acc, e, low_zeros k)

-- the digits of a number are its last digits behind zeros
filled_low : (k i n : ℕ) (acc : List ℕ) → k ≤ i → n < 16 ^ suc k
    → filled (suc k + length acc) (digits_onto (suc i) 16 false n acc) ≡ low_digits (suc k) n ++ acc
filled_low zero i n acc enough small =
    rw (onto_test i n acc true (eq-eqb (n / 16) 0 (omega arith))) (filled_last 0 n acc (omega arith))
filled_low (suc k) zero n acc enough small = absurd (omega arith)
filled_low (suc k) (suc i) n acc enough small = elim (cases_eq (n / 16) 0) [
  | inl e ↦ rw (onto_test (suc i) n acc true (eq-eqb (n / 16) 0 e)) (filled_last (suc k) n acc e)
  | inr more ↦
      let width : suc k + length (last_glyph n ∷ acc) ≡ suc (suc k) + length acc = omega arith in
      let rest = filled_low k i (n / 16) (last_glyph n ∷ acc) (omega arith) (omega arith) in
      rw (onto_test (suc i) n acc false (ne_eqb (n / 16) 0 more), low_more (suc k) n acc, ← width) rest
]

-- padding as `{:08x}` does it
pub padded_filled : (width : ℕ) (ds : List ℕ)
    → padded_integral (format_spec 32 0 4 width (2 ^ 64 - 1)) false [] ds ≡ filled width ds
unfolding padded_integral char_count
padded_filled width ds =
    let zeros : width - length ds - 0 - 0 ≡ width - length ds = omega arith in
    rw (zeros, append-nil ds) refl

low_fuel : (k i fuel n : ℕ) → fuel ≡ suc i → k ≤ i → n < 16 ^ suc k
    → filled (suc k) (digits_onto fuel 16 false n []) ≡ low_digits (suc k) n
low_fuel k i fuel n e enough small =
    let width : suc k + 0 ≡ suc k = omega arith in
    rw e (subst (λ (w : ℕ). filled w (digits_onto (suc i) 16 false n []) ≡ low_digits (suc k) n) width
    (filled_low k i n [] enough small ∙ append-nil (low_digits (suc k) n)))

digits_fuel : (n : ℕ) → digits 16 false n ≡ digits_onto 64 16 false n []
unfolding digits
digits_fuel n = refl

pub hex_low : (k n : ℕ) → k ≤ 63 → n < 16 ^ suc k → hex_digits (suc k) n ≡ low_digits (suc k) n
hex_low k n most small =
    padded_filled (suc k) (digits 16 false n) ∙ ap (filled (suc k)) (digits_fuel n)
    ∙ low_fuel k 63 64 n refl most small

pub low_none : (n : ℕ) → low_digits 0 n ≡ []
unfolding low_digits
low_none n = refl

pub low_front : (k n : ℕ) → 0 < k → low_digits k n ≡ low_digits (k - 1) (n / 16) ++ (last_glyph n ∷ [])
unfolding low_digits
low_front zero n some = absurd (omega arith)
low_front (suc k) n some = let e : suc k - 1 ≡ k = omega arith in rw e refl

-- ---- lengths

pub length_eight : (n : ℕ) → n < 2 ^ 32 → length (hex_digits 8 n) ≡ 8
length_eight n small = ap length (hex_low 7 n (omega arith) (omega arith)) ∙ length-low_digits 8 n

pub length_two : (n : ℕ) → n < 256 → length (hex_digits 2 n) ≡ 2
length_two n small = ap length (hex_low 1 n (omega arith) (omega arith)) ∙ length-low_digits 2 n

-- ---- rows

-- A number of four digits is not padded to three, so that three at least are all four.
pub row_long : (n : ℕ) → 16 ^ 3 ≤ n → n < 16 ^ 4 → hex_digits 3 n ≡ low_digits 4 n
unfolding low_digits
row_long n high small =
    padded_filled 3 (digits 16 false n)
    ∙ ap (filled 3) (digits_fuel n
    ∙ onto_test 63 n [] false (ne_eqb (n / 16) 0 (omega arith))
    ∙ onto_test 62 (n / 16) (last_glyph n ∷ []) false (ne_eqb (n / 16 / 16) 0 (omega arith))
    ∙ onto_test 61 (n / 16 / 16) (last_glyph (n / 16) ∷ last_glyph n ∷ []) false
    (ne_eqb (n / 16 / 16 / 16) 0 (omega arith))
    ∙ onto_test 60 (n / 16 / 16 / 16) (last_glyph (n / 16 / 16) ∷ last_glyph (n / 16) ∷ last_glyph n ∷ []) true
    (eq-eqb (n / 16 / 16 / 16 / 16) 0 (omega arith)))
