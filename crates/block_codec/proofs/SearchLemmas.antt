-- The first element of a list that passes a test.
use Rattle.std.proofs.Common.{◌≡◌, ℕ, zero, suc, ◌+◌, ◌||◌, Bool, true, false, cond, List, [], ◌∷◌, take, get_or, Option, Some, None, sym, ap, subst, ◌∙◌, refl}
use Rattle.std.proofs.lemmas.Bool.{true≢false}
use Rattle.std.proofs.lemmas.List.{take_more}
use Rattle.std.proofs.lemmas.List.Folds.{find-append}
use Rattle.std.proofs.lemmas.Option.{slice_get_within, none-some, same_Some, get_or_from_slice_get}
use Rattle.std.specs.List.{slice_get, find, list_any, Contains}
use Rattle.std.specs.Option.{is_some, option_or}

module _ {X : Type 0} (p : X → Bool) where
  -- a first element that passes is there where one passes
  pub is_some-find : (xs : List X) → is_some (find p xs) ≡ list_any p xs
  is_some-find [] = refl
  is_some-find (x ∷ xs) = go (p x) (is_some-find xs)
    where
      go : (b : Bool) → is_some (find p xs) ≡ list_any p xs
          → is_some (cond b (Some x) (find p xs)) ≡ (b || list_any p xs)
      go true rest = refl
      go false rest = rest

  pub find-none : (xs : List X) → list_any p xs ≡ false → find p xs ≡ None
  find-none xs e = go (find p xs) (is_some-find xs ∙ e)
    where
      go : (o : Option X) → is_some o ≡ false → o ≡ None
      go None f = refl
      go (Some x) f = absurd (true≢false f)

  pub find-passes : (xs : List X) (x : X) → find p xs ≡ Some x → p x ≡ true
  find-passes [] x e = absurd (none-some x e)
  find-passes (y ∷ xs) x e = go (p y) refl e (find-passes xs x)
    where
      go : (b : Bool) → p y ≡ b → cond b (Some y) (find p xs) ≡ Some x → (find p xs ≡ Some x → p x ≡ true) → p x ≡ true
      go true t f rest = subst (λ z. p z ≡ true) (same_Some y x f) t
      go false t f rest = rest f

  pub find-place : (xs : List X) (x : X) → find p xs ≡ Some x → (i : ℕ) × (slice_get xs i ≡ Some x)
  find-place [] x e = absurd (none-some x e)
  find-place (y ∷ xs) x e = go (p y) e (find-place xs x)
    where
      go : (b : Bool) → cond b (Some y) (find p xs) ≡ Some x
          → (find p xs ≡ Some x → (i : ℕ) × (slice_get xs i ≡ Some x)) → (i : ℕ) × (slice_get (y ∷ xs) i ≡ Some x)
      go true f rest = (0, f)
      go false f rest = let at = rest f in (suc at.0, at.1)

  pub find-contains : (xs : List X) (x : X) → find p xs ≡ Some x → Contains xs x
  find-contains xs x e =
      let at = find-place xs x e in
      (at.0, slice_get_within xs at.0 x at.1, get_or_from_slice_get xs at.0 x x at.1)

  -- the first elements, none of which passes, and one that does
  pub find_here : (xs : List X) (i : ℕ) (x : X) → find p (take i xs) ≡ None → slice_get xs i ≡ Some x → p x ≡ true
      → find p xs ≡ Some x
  find_here [] i x none at t = absurd (none-some x at)
  find_here (y ∷ xs) zero x none at t =
      subst (λ z. find p (z ∷ xs) ≡ Some x) (sym (same_Some y x at)) (ap (λ b. cond b (Some x) (find p xs)) t)
  find_here (y ∷ xs) (suc i) x none at t = go (p y) none (λ rest. find_here xs i x rest at t)
    where
      go : (b : Bool) → cond b (Some y) (find p (take i xs)) ≡ None
          → (find p (take i xs) ≡ None → find p xs ≡ Some x) → cond b (Some y) (find p xs) ≡ Some x
      go true f rest = absurd (none-some y (sym f))
      go false f rest = rest f

  pub find_past : (xs : List X) (i : ℕ) (x : X) → find p (take i xs) ≡ None → slice_get xs i ≡ Some x → p x ≡ false
      → find p (take (i + 1) xs) ≡ None
  find_past xs i x none at f =
      let lt = slice_get_within xs i x at in
      let here : p (get_or xs i x) ≡ false = ap p (get_or_from_slice_get xs i x x at) ∙ f in
      ap (find p) (take_more xs i x lt) ∙ find-append p (take i xs) (get_or xs i x ∷ [])
      ∙ ap (λ o. option_or o (cond (p (get_or xs i x)) (Some (get_or xs i x)) None)) none
      ∙ ap (λ b. cond b (Some (get_or xs i x)) None) here
