-- What lies bit by bit between two numbers that are equal, or that differ in one bit.
use Rattle.std.proofs.Common.{◌≡◌, ◌≢◌, ◌⊎◌, ℕ, inl, inr, sym, ◌∙◌, subst}
use Rattle.std.specs.Int.{bit_at}
use Rattle.std.proofs.lemmas.Bool.{cases_eq}
use Rattle.std.proofs.lemmas.Nat.Bits.{same_from_bits}
use Rattle.pico_board.specs.Steps.{IsBetween}

-- where nothing changes nothing is torn
pub IsBetween-same : (a x : ℕ) → IsBetween a a x → x ≡ a
IsBetween-same a x between = same_from_bits x a (λ k. elim (between k) [ inl e ↦ e | inr e ↦ e ])

-- where one bit changes the torn number is one of the two
pub IsBetween-one : (a b x i : ℕ) → ((k : ℕ) → k ≢ i → bit_at a k ≡ bit_at b k) → IsBetween a b x → (x ≡ a) ⊎ (x ≡ b)
IsBetween-one a b x i same between = elim (between i) [
  | inl e ↦ inl (same_from_bits x a (λ k. elim (cases_eq k i) [
    | inl here ↦ subst (λ (j : ℕ). bit_at x j ≡ bit_at a j) (sym here) e
    | inr other ↦ elim (between k) [ inl f ↦ f | inr f ↦ f ∙ sym (same k other) ]
  ]))
  | inr e ↦ inr (same_from_bits x b (λ k. elim (cases_eq k i) [
    | inl here ↦ subst (λ (j : ℕ). bit_at x j ≡ bit_at b j) (sym here) e
    | inr other ↦ elim (between k) [ inl f ↦ f ∙ same k other | inr f ↦ f ]
  ]))
]
