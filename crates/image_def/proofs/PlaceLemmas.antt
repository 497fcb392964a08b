-- The place of the first element that passes a test.
use Rattle.std.proofs.Common.{◌≡◌, ℕ, zero, suc, ◌+◌, Bool, true, false, cond, List, [], ◌∷◌, take, Some, None, refl, sym, ap, subst, ◌∙◌, arith}
use Rattle.std.proofs.lemmas.Iterator.Adapters.{position_from-zero}
use Rattle.std.proofs.lemmas.Option.{none-some, same_Some}
use Rattle.std.specs.List.{slice_get, find, position, position_from}

module _ {X : Type 0} (p : X → Bool) where
  from-here : (k : ℕ) (xs : List X) (i : ℕ) (x : X) → find p (take i xs) ≡ None → slice_get xs i ≡ Some x
      → p x ≡ true → position_from p k xs ≡ Some (k + i)
  from-here k [] i x none at t = absurd (none-some x at)
  from-here k (y ∷ xs) zero x none at t =
      ap (λ b. cond b (Some k) (position_from p (k + 1) xs))
      (subst (λ z. p z ≡ true) (sym (same_Some y x at)) t) ∙ ap Some (omega arith)
  from-here k (y ∷ xs) (suc i) x none at t = go (p y) none (λ rest. from-here (k + 1) xs i x rest at t)
    where
      go : (b : Bool) → cond b (Some y) (find p (take i xs)) ≡ None
          → (find p (take i xs) ≡ None → position_from p (k + 1) xs ≡ Some (k + 1 + i))
          → cond b (Some k) (position_from p (k + 1) xs) ≡ Some (k + suc i)
      go true f rest = absurd (none-some y (sym f))
      go false f rest = rest f ∙ ap Some (omega arith)

  from-nowhere : (k : ℕ) (xs : List X) → find p xs ≡ None → position_from p k xs ≡ None
  from-nowhere k [] none = refl
  from-nowhere k (y ∷ xs) none = go (p y) none (from-nowhere (k + 1) xs)
    where
      go : (b : Bool) → cond b (Some y) (find p xs) ≡ None → (find p xs ≡ None → position_from p (k + 1) xs ≡ None)
          → cond b (Some k) (position_from p (k + 1) xs) ≡ None
      go true f rest = absurd (none-some y (sym f))
      go false f rest = rest f

  -- the first elements, none of which passes, and one that does
  pub place-here : (xs : List X) (i : ℕ) (x : X) → find p (take i xs) ≡ None → slice_get xs i ≡ Some x → p x ≡ true
      → position p xs ≡ Some i
  place-here xs i x none at t = position_from-zero p xs ∙ from-here 0 xs i x none at t ∙ ap Some (omega arith)

  -- no element passes
  pub place-nowhere : (xs : List X) → find p xs ≡ None → position p xs ≡ None
  place-nowhere xs none = position_from-zero p xs ∙ from-nowhere 0 xs none
