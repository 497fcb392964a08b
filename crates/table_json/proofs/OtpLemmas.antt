-- The slot size of an OTP, and its rows, as they are read.
use Rattle.std.proofs.Common.{◌≡◌, ℕ, suc, ◌+◌, ◌-◌, ◌<◌, ◌≤◌, Bool, true, false, cond, ◌∷◌, Some, None, refl, sym, ap, ◌∙◌, arith, lit<, ◌*◌, ◌%◌, ◌^◌}
use Rattle.std.proofs.Math.Nat.{pow-le-pow_right, mod-eq_of_lt}
use Rattle.std.proofs.lemmas.Bool.{ne_eqb}
use Rattle.std.proofs.lemmas.Bool.Decides.{nat_tests}
use Rattle.std.specs.List.{find, range_with_len}
use Rattle.table_json.specs.declared.otps.TheConstants.{SLOT_EXPONENTS}
use Rattle.table_json.specs.Otps.{exponent_of, is_size_of}

pub exponent-first : (size : ℕ)
    → exponent_of size ≡ find (is_size_of size) (range_with_len 0 (SLOT_EXPONENTS - 0))
unfolding exponent_of
exponent-first size = refl

-- the slot size of an exponent is a word
shifted : (k : ℕ) → k < 12 → (4096 * 2 ^ k) % 2 ^ 64 ≡ 4096 * 2 ^ k
shifted k few =
    let least : k ≤ 11 = omega (arith, few) in
    let most : 2 ^ k ≤ 2 ^ 11 = pow-le-pow_right (lit< tt) least in
    mod-eq_of_lt (omega (arith, most))

pub is-size : (size k : ℕ) → k < 12 → size ≡ (4096 * 2 ^ k) % 2 ^ 64 → is_size_of size k ≡ true
is-size size k few is = let same = is ∙ shifted k few in grind (arith, nat_tests, same)

pub other-size : (size k : ℕ) → k < 12 → (size ≡ (4096 * 2 ^ k) % 2 ^ 64 → ⊥) → is_size_of size k ≡ false
other-size size k few other =
    ne_eqb size (4096 * 2 ^ k) (λ same. other (same ∙ sym (shifted k few)))

module _ (p : ℕ → Bool) (a n : ℕ) where
  -- the numbers from a on below n: a itself, and the others
  one-by-one : a < n → range_with_len a (n - a) ≡ a ∷ range_with_len (a + 1) (n - (a + 1))
  one-by-one below =
      let more : n - a ≡ suc (n - (a + 1)) = omega (arith, below) in
      ap (λ k. range_with_len a k) more

  pub scan-here : a < n → p a ≡ true → find p (range_with_len a (n - a)) ≡ Some a
  scan-here below is =
      ap (λ ks. find p ks) (one-by-one below)
      ∙ ap (λ t. cond t (Some a) (find p (range_with_len (a + 1) (n - (a + 1))))) is

  pub scan-past : a < n → p a ≡ false
      → find p (range_with_len a (n - a)) ≡ find p (range_with_len (a + 1) (n - (a + 1)))
  scan-past below is =
      ap (λ ks. find p ks) (one-by-one below)
      ∙ ap (λ t. cond t (Some a) (find p (range_with_len (a + 1) (n - (a + 1))))) is

  pub scan-end : n ≤ a → find p (range_with_len a (n - a)) ≡ None
  scan-end past =
      let none : n - a ≡ 0 = omega (arith, past) in ap (λ k. find p (range_with_len a k)) none
