-- A list's first fault, found by a loop that judges one element after the other.
use Rattle.std.proofs.Common.{◌≡◌, ◌⊎◌, ℕ, zero, suc, ◌+◌, ◌<◌, ◌≤◌, List, [], ◌∷◌, ◌++◌, length, take, Option, Some, None, refl, sym, ap, subst, ◌∙◌, inl, inr, arith, append_assoc}
use Rattle.std.proofs.lemmas.List.{append-nil}
use Rattle.std.proofs.lemmas.Option.{slice_get_within, none-some, same_Some}
use Rattle.std.proofs.lemmas.Bool.{cases_lt}
use Rattle.std.specs.List.{slice_get}
use Rattle.std.specs.Option.{option_or}
use Rattle.block_codec.specs.FirstFault.{first_from, first_fault, IsFirst, AreSound}

some_at : {X : Type 0} (xs : List X) (n : ℕ) → n < length xs → (x : X) × (slice_get xs n ≡ Some x)
some_at [] n lt = absurd (omega arith)
some_at (x ∷ xs) zero lt = (x, refl)
some_at (x ∷ xs) (suc n) lt = some_at xs n (omega arith)

none_or_some : {F : Type 0} (o : Option F) → (o ≡ None) ⊎ ((f : F) × (o ≡ Some f))
none_or_some None = inl refl
none_or_some (Some f) = inr (f, refl)

module _ {X F : Type 0} (judge : List X → X → Option F) where
  -- the elements, judged by `before` and those in front of them, have no fault
  abbrev no_fault_from : List X → List X → Type 0
  no_fault_from before xs = (j : ℕ) (x : X) → slice_get xs j ≡ Some x → judge (before ++ take j xs) x ≡ None

  no_fault-tail : (before : List X) (x : X) (xs : List X) → no_fault_from before (x ∷ xs)
      → no_fault_from (before ++ x ∷ []) xs
  no_fault-tail before x xs h j y at = ap (λ ys. judge ys y) (append_assoc before (x ∷ []) (take j xs)) ∙ h (suc j) y at

  first_judged : (before : List X) (x : X) (xs : List X) (o : Option F) → judge (before ++ []) x ≡ o
      → first_from judge before (x ∷ xs) ≡ option_or o (first_from judge (before ++ x ∷ []) xs)
  first_judged before x xs o e =
      ap (λ f. option_or f (first_from judge (before ++ x ∷ []) xs))
      (ap (λ ys. judge ys x) (sym (append-nil before)) ∙ e)

  first_from-none : (before xs : List X) → no_fault_from before xs → first_from judge before xs ≡ None
  first_from-none before [] h = refl
  first_from-none before (x ∷ xs) h =
      first_judged before x xs None (h 0 x refl) ∙ first_from-none (before ++ x ∷ []) xs (no_fault-tail before x xs h)

  first_from-some : (before xs : List X) (i : ℕ) (x : X) (f : F) → slice_get xs i ≡ Some x
      → judge (before ++ take i xs) x ≡ Some f →
      ((j : ℕ) (y : X) → j < i → slice_get xs j ≡ Some y → judge (before ++ take j xs) y ≡ None)
      → first_from judge before xs ≡ Some f
  first_from-some before [] i x f at fault h = absurd (none-some x at)
  first_from-some before (y ∷ xs) zero x f at fault h =
      first_judged before y xs (Some f) (subst (λ z. judge (before ++ []) z ≡ Some f) (sym (same_Some y x at)) fault)
  first_from-some before (y ∷ xs) (suc i) x f at fault h =
      first_judged before y xs None (h 0 y (omega arith) refl)
      ∙ first_from-some (before ++ y ∷ []) xs i x f at
      (ap (λ ys. judge ys x) (append_assoc before (y ∷ []) (take i xs)) ∙ fault)
      (λ j z lt here. ap (λ ys. judge ys z) (append_assoc before (y ∷ []) (take j xs)) ∙ h (suc j) z (omega arith) here)

  -- no element was judged yet
  pub sound_none : (xs : List X) → AreSound judge xs 0
  sound_none xs j x lt at = absurd (omega arith)

  -- the element at place n has no fault either
  pub sound_more : (xs : List X) (n : ℕ) (x : X) → AreSound judge xs n → slice_get xs n ≡ Some x
      → judge (take n xs) x ≡ None → AreSound judge xs (n + 1)
  sound_more xs n x sound here none j y lt at =
      elim (cases_lt j n) [
        | inl less ↦ sound j y less at
        | inr most ↦
            let is : j ≡ n = omega arith in
            let same : x ≡ y = same_Some x y (sym here ∙ ap (slice_get xs) (sym is) ∙ at) in
            subst (λ z. judge (take j xs) z ≡ None) same (subst (λ k. judge (take k xs) x ≡ None) (sym is) none)
      ]

  -- all elements were judged
  pub none_from_sound_at : (xs : List X) (n : ℕ) → length xs ≤ n → AreSound judge xs n → first_fault judge xs ≡ None
  none_from_sound_at xs n all sound =
      first_from-none [] xs (λ j x at. sound j x (let lt = slice_get_within xs j x at in omega (arith, lt)) at)

  -- the first fault is the list's
  pub fault_from_first : (xs : List X) (i : ℕ) (f : F) → IsFirst judge xs i f → first_fault judge xs ≡ Some f
  fault_from_first xs i f first =
      let (x, at, fault) = first.here in
      first_from-some [] xs i x f at fault first.before

  -- the element at place n, behind those without a fault, has the first
  pub first_at : (xs : List X) (n : ℕ) (x : X) (f : F) → AreSound judge xs n → slice_get xs n ≡ Some x
      → judge (take n xs) x ≡ Some f → IsFirst judge xs n f
  first_at xs n x f sound here fault = record { here = (x, here, fault); before = sound }

  -- the first n elements have no fault, or one of the list's elements has the first
  pub sound_or_first : (xs : List X) (n : ℕ) → n ≤ length xs
      → AreSound judge xs n ⊎ ((i : ℕ) × (f : F) × IsFirst judge xs i f)
  sound_or_first xs zero room = inl (sound_none xs)
  sound_or_first xs (suc n) room =
      elim (sound_or_first xs n (omega arith)) [
        | inr first ↦ inr first
        | inl sound ↦
            let (x, here) = some_at xs n (omega arith) in
            elim (none_or_some (judge (take n xs) x)) [
              | inl none ↦ inl (subst (AreSound judge xs) (omega arith) (sound_more xs n x sound here none))
              | inr some ↦ inr (n, some.0, first_at xs n x some.0 sound here some.1)
            ]
      ]

  -- a list without a first fault is sound
  pub sound_from_none : (xs : List X) → first_fault judge xs ≡ None → AreSound judge xs (length xs)
  sound_from_none xs e =
      elim (sound_or_first xs (length xs) (omega arith)) [
        | inl sound ↦ sound
        | inr first ↦ absurd (none-some first.1 (sym e ∙ fault_from_first xs first.0 first.1 first.2))
      ]

  -- the fault that a list has is that of the first faulty element
  pub first_from_fault : (xs : List X) (f : F) → first_fault judge xs ≡ Some f → (i : ℕ) × IsFirst judge xs i f
  first_from_fault xs f e =
      elim (sound_or_first xs (length xs) (omega arith)) [
        | inl sound ↦ absurd (none-some f (sym (none_from_sound_at xs (length xs) (omega arith) sound) ∙ e))
        | inr first ↦
            let same : first.1 ≡ f = same_Some first.1 f (sym (fault_from_first xs first.0 first.1 first.2) ∙ e) in
            (first.0, subst (IsFirst judge xs first.0) same first.2)
      ]
