-- The last element of a list that passes a test.
use Rattle.std.proofs.Common.{◌≡◌, ℕ, zero, suc, ◌<◌, Bool, true, false, List, [], ◌∷◌, arith, refl, subst, inl, inr, cond}
use Rattle.std.specs.Prelude.{Option, None, Some, find, reverse, slice_get, Contains}
use Rattle.std.proofs.lemmas.List.{reverse-append}
use Rattle.std.proofs.lemmas.List.Folds.{find-append}
use Rattle.std.proofs.lemmas.List.Elements.{Contains-append_cases}
use Rattle.std.proofs.lemmas.Option.{none-some, same_Some}

Contains-first : {X : Type 0} (x : X) (xs : List X) → Contains (x ∷ xs) x
Contains-first x xs = (0, omega arith, refl)

pub Contains-later : {X : Type 0} (x y : X) (xs : List X) → Contains xs y → Contains (x ∷ xs) y
Contains-later x y xs (k, lt, is) = (suc k, omega (arith, lt), is)

-- an element of a list turned round is one of the list
Contains-turned : {X : Type 0} (xs : List X) (y : X) → Contains (reverse xs) y → Contains xs y
Contains-turned [] y (k, lt, is) = absurd (omega (arith, lt))
Contains-turned (x ∷ xs) y within =
    elim (Contains-append_cases (reverse xs) (x ∷ []) y
    (subst (λ ys. Contains ys y) (reverse-append (x ∷ []) xs) within)) [
      | inl earlier ↦ Contains-later x y xs (Contains-turned xs y earlier)
      | inr here ↦ subst (λ z. Contains (x ∷ xs) z) (single here) (Contains-first x xs)
    ]
  where
    single : Contains (x ∷ []) y → x ≡ y
    single (zero, lt, is) = is
    single (suc k, lt, is) = absurd (omega (arith, lt))

module _ {X : Type 0} (p : X → Bool) where
  found-by : (y x : X) (ys : List X) (found : Option X) → (found ≡ Some x → (p x ≡ true) × Contains ys x)
      → (test : Bool) → p y ≡ test → cond test (Some y) found ≡ Some x → (p x ≡ true) × Contains (y ∷ ys) x
  found-by y x ys found rest true passes here =
      subst (λ z. (p z ≡ true) × Contains (y ∷ ys) z) (same_Some y x here) (passes, Contains-first y ys)
  found-by y x ys found rest false fails later =
      let others = rest later in
      (others.0, Contains-later y x ys others.1)

  -- what is found passes, and is an element
  found-in : (xs : List X) (x : X) → find p xs ≡ Some x → (p x ≡ true) × Contains xs x
  found-in [] x is = absurd (none-some x is)
  found-in (y ∷ ys) x is = found-by y x ys (find p ys) (found-in ys x) (p y) refl is

  -- the last that passes does, and is an element
  pub last-in : (xs : List X) (x : X) → find p (reverse xs) ≡ Some x → (p x ≡ true) × Contains xs x
  last-in xs x is =
      let found = found-in (reverse xs) x is in
      (found.0, Contains-turned xs x found.1)

  -- where none passes there is no last one
  pub none-last : (xs : List X) → ((i : ℕ) (x : X) → slice_get xs i ≡ Some x → p x ≡ false)
      → find p (reverse xs) ≡ None
  none-last [] fails = refl
  none-last (x ∷ xs) fails =
      let rest = none-last xs (λ i y at. fails (suc i) y at) in
      rw (reverse-append (x ∷ []) xs, find-append p (reverse xs) (x ∷ []), rest, fails 0 x refl) refl

  -- one that passes, behind which none passes, is the last
  pub last-at : (xs : List X) (i : ℕ) (x : X) → slice_get xs i ≡ Some x → p x ≡ true
      → ((j : ℕ) (y : X) → i < j → slice_get xs j ≡ Some y → p y ≡ false) → find p (reverse xs) ≡ Some x
  last-at [] i x at passes fails = absurd (none-some x at)
  last-at (y ∷ ys) zero x at passes fails =
      let rest = none-last ys (λ j z here. fails (suc j) z (omega arith) here) in
      let same = same_Some y x at in
      rw (reverse-append (y ∷ []) ys, find-append p (reverse ys) (y ∷ []), rest) (rw same (rw passes refl))
  last-at (y ∷ ys) (suc i) x at passes fails =
      let rest = last-at ys i x at passes (λ j z lt here. fails (suc j) z (omega (arith, lt)) here) in
      rw (reverse-append (y ∷ []) ys, find-append p (reverse ys) (y ∷ []), rest) refl
