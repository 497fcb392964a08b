-- Words that have each raised bit of their rows.
use Rattle.std.proofs.Common.{◌≡◌, ℕ, zero, suc, ◌+◌, ◌<◌, ◌≤◌, Bool, true, false, ◌&&◌, ◌==◌, List, [], ◌∷◌, length, get_or, min, refl, subst, ◌∙◌, ap, arith, eq-eqb}
use Rattle.std.specs.Prelude.{bit_and, slice_index}
use Rattle.std.specs.Int.{bit_at}
use Rattle.std.proofs.lemmas.Bool.Decides.{nat_tests}
use Rattle.std.proofs.lemmas.Nat.Bits.{bit_at_and, same_from_bits}
use Rattle.pico_board.specs.Steps.{HasBitsOf}
use Rattle.picoboot_cmd.specs.Rows.{keeps_raised}

-- a word keeps a row by its bits
row-bits : (row word : ℕ) → bit_and row word ≡ row → HasBitsOf word row
row-bits row word kept k =
    let both = bit_at_and row word k in
    let same = ap (λ x. bit_at x k) kept in
    omega (arith, both, same)

row-kept : (row word : ℕ) → HasBitsOf word row → bit_and row word ≡ row
row-kept row word has = same_from_bits (bit_and row word) row (λ k. each k (bit_at_and row word k) (has k))
  where
    each : (k : ℕ) → bit_at (bit_and row word) k ≡ min (bit_at row k) (bit_at word k) → bit_at row k ≤ bit_at word k
        → bit_at (bit_and row word) k ≡ bit_at row k
    each k both le = omega arith

both_of : (a b : Bool) → (a && b) ≡ true → (a ≡ true) × (b ≡ true)
both_of true b e = (refl, e)
both_of false b e = cc

same_number : (a b : ℕ) → (a == b) ≡ true → a ≡ b
same_number a b e = grind (arith, nat_tests)

module _ (otp : List ℕ) where
  pub keeps-bits : (row : ℕ) (words : List ℕ) → keeps_raised otp row words ≡ true → (i : ℕ) → i < length words
      → HasBitsOf (get_or words i 0) (get_or otp (row + i) 0)
  keeps-bits row [] kept i lt = absurd (omega arith)
  keeps-bits row (w ∷ words) kept zero lt =
      let here : row ≡ row + 0 = omega arith in
      subst (λ r. HasBitsOf w (get_or otp r 0)) here
      (row-bits (slice_index otp row) w (same_number _ _ ((both_of _ _ kept).0)))
  keeps-bits row (w ∷ words) kept (suc i) lt =
      let there : row + 1 + i ≡ row + suc i = omega arith in
      subst (λ r. HasBitsOf (get_or words i 0) (get_or otp r 0)) there
      (keeps-bits (row + 1) words ((both_of _ _ kept).1) i (omega arith))

  pub keeps-from_bits : (row : ℕ) (words : List ℕ)
      → ((i : ℕ) → i < length words → HasBitsOf (get_or words i 0) (get_or otp (row + i) 0))
      → keeps_raised otp row words ≡ true
  keeps-from_bits row [] has = refl
  keeps-from_bits row (w ∷ words) has =
      let here : row + 0 ≡ row = omega arith in
      let first : HasBitsOf w (slice_index otp row) =
      subst (λ r. HasBitsOf w (get_or otp r 0)) here (has zero (omega arith)) in
      ap (λ b. b && keeps_raised otp (row + 1) words) (eq-eqb _ _ (row-kept (slice_index otp row) w first))
      ∙ keeps-from_bits (row + 1) words (λ i lt.
      let there : row + suc i ≡ row + 1 + i = omega arith in
      subst (λ r. HasBitsOf (get_or words i 0) (get_or otp r 0)) there (has (suc i) (omega arith)))
