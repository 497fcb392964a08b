-- A bit that is set in words of 64.
use Rattle.std.proofs.Common.{◌≡◌, ◌≢◌, ◌⊎◌, ℕ, ◌*◌, ◌/◌, ◌%◌, ◌^◌, ◌<◌, Bool, true, false, nat_eq, if◌then◌else◌, List, length, get_or, bit_or, arith, refl, sym, ap, subst, ◌∙◌, inl, inr}
use Rattle.std.specs.Prelude.{slice_index, slice_set}
use Rattle.std.specs.Int.{bit_at, w64}
use Rattle.std.proofs.lemmas.Nat.Bits.{bit_at_set_same, bit_at_set_other}
use Rattle.std.proofs.lemmas.Bool.Decides.{Decides-eqb, nat_tests}
use Rattle.std.proofs.lemmas.List.{get_or-set_same, get_or-set_other}
use Rattle.uf2_place.specs.Marks.{is_marked}

-- the word with bit k set
abbrev with_bit : ℕ → ℕ → ℕ
with_bit word k = bit_or word (1 * 2 ^ k % 18446744073709551616)

pub differ : (a b : ℕ) → (a ≡ b) ⊎ (a ≢ b)
differ a b = by (nat_eq a b) refl
  where
    by : (c : Bool) → nat_eq a b ≡ c → (a ≡ b) ⊎ (a ≢ b)
    by true is = inl ((Decides-eqb a b).0 is)
    by false is = inr (λ same. grind (arith, nat_tests, is, same))

module _ (words : List ℕ) (i j : ℕ) (within : i < 64 * length words) where
  abbrev word : ℕ
  word = get_or words (i / 64) 0

  -- the words afterwards
  abbrev set : List ℕ
  set = slice_set words (i / 64) (with_bit word (i % 64))

  inside : i / 64 < length words
  inside = omega (arith, within)

  here : i / 64 ≡ j / 64 → slice_index set (j / 64) ≡ with_bit word (i % 64)
  here same = subst (λ k. slice_index set k ≡ with_bit word (i % 64)) same
      (get_or-set_same words (i / 64) (with_bit word (i % 64)) 0 inside)

  same-bit : i / 64 ≡ j / 64 → i % 64 ≡ j % 64 → is_marked set j ≡ (if nat_eq i j then true else is_marked words j)
  unfolding is_marked
  same-bit same bit =
      let equal : i ≡ j = omega (arith, same, bit) in
      let one : bit_at (with_bit word (i % 64)) (i % 64) ≡ 1 = bit_at_set_same w64 word (i % 64) (omega arith) in
      let marked : bit_at (slice_index set (j / 64)) (j % 64) ≡ 1 =
      ap (λ w. bit_at w (j % 64)) (here same) ∙ subst (λ k. bit_at (with_bit word (i % 64)) k ≡ 1) bit one in
      rw (marked, (Decides-eqb i j).1 equal) refl

  other-bit : i / 64 ≡ j / 64 → j % 64 ≢ i % 64 → is_marked set j ≡ (if nat_eq i j then true else is_marked words j)
  unfolding is_marked
  other-bit same bit =
      let differ : nat_eq i j ≡ false = grind (arith, nat_tests, bit) in
      let kept : bit_at (slice_index set (j / 64)) (j % 64) ≡ bit_at (slice_index words (j / 64)) (j % 64) =
      ap (λ w. bit_at w (j % 64)) (here same)
      ∙ bit_at_set_other w64 word (i % 64) (omega arith) (j % 64) bit
      ∙ ap (λ k. bit_at (get_or words k 0) (j % 64)) same in
      rw (kept, differ) refl

  other-word : i / 64 ≢ j / 64 → is_marked set j ≡ (if nat_eq i j then true else is_marked words j)
  unfolding is_marked
  other-word other =
      let differ : nat_eq i j ≡ false = grind (arith, nat_tests, other) in
      let kept : slice_index set (j / 64) ≡ slice_index words (j / 64) =
      get_or-set_other words (i / 64) (j / 64) (with_bit word (i % 64)) 0 (λ same. other (sym same)) in
      rw (kept, differ) refl

  pub marked-set : is_marked set j ≡ (if nat_eq i j then true else is_marked words j)
  marked-set = elim (differ (i / 64) (j / 64)) [
    | inl same ↦ elim (differ (j % 64) (i % 64)) [
      | inl bit ↦ same-bit same (sym bit)
      | inr bit ↦ other-bit same bit
    ]
    | inr other ↦ other-word other
  ]
