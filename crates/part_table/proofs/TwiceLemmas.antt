-- Two elements that pass a test, by their number and by their places.
use Rattle.std.proofs.Common.{◌≡◌, inl, inr, ℕ, zero, suc, ◌<◌, ◌≤◌, nat_le, Bool, true, false, cond, List, [], ◌∷◌, length, filter, find, slice_get, Some, refl, sym, ap, subst, ◌∙◌, arith}
use Rattle.std.proofs.lemmas.Bool.{cases_lt}
use Rattle.std.proofs.lemmas.Bool.Decides.{nat_tests}
use Rattle.std.proofs.lemmas.Option.{none-some, same_Some}
use Rattle.part_table.proofs.TestLemmas.{search_of}

pub two-from : (n : ℕ) → nat_le 2 n ≡ true → 2 ≤ n
two-from n e = grind (arith, nat_tests)

pub two-to : (n : ℕ) → 2 ≤ n → nat_le 2 n ≡ true
two-to n le = grind (arith, nat_tests)

module _ {X : Type 0} (p : X → Bool) where
  -- x stands at place i, and passes
  abbrev pub PassesAt : List X → ℕ → X → Type 0
  PassesAt xs i x = (slice_get xs i ≡ Some x) × (p x ≡ true)

  pub record Twice (xs : List X) : Type 0 where
    pub place : ℕ
    pub later : ℕ
    pub one : X
    pub other : X
    pub apart : place < later
    pub first : PassesAt xs place one
    pub second : PassesAt xs later other

  one-more : (test : Bool) (y : X) (zs : List X) → length zs ≤ length (cond test (y ∷ zs) zs)
  one-more true y zs = omega arith
  one-more false y zs = omega arith

  behind : (xs : List X) (y : X) → Twice xs → Twice (y ∷ xs)
  behind xs y two = record {
    place = suc two.place;
    later = suc two.later;
    one = two.one;
    other = two.other;
    apart = omega (arith, two.apart);
    first = two.first;
    second = two.second;
  }

  some-of : (xs : List X) → 1 ≤ length (filter p xs) → (i : ℕ) × (x : X) × PassesAt xs i x
  some-of [] le = absurd (omega (arith, le))
  some-of (y ∷ ys) le = go (p y) refl le (some-of ys)
    where
      go : (test : Bool) → p y ≡ test → 1 ≤ length (cond test (y ∷ filter p ys) (filter p ys))
          → (1 ≤ length (filter p ys) → (i : ℕ) × (x : X) × PassesAt ys i x)
          → (i : ℕ) × (x : X) × PassesAt (y ∷ ys) i x
      go true is more rest = (zero, y, (refl, is))
      go false is more rest = let found = rest more in (suc found.0, found.1, found.2)

  of-some : (xs : List X) (i : ℕ) (x : X) → PassesAt xs i x → 1 ≤ length (filter p xs)
  of-some [] i x passes = absurd (none-some x passes.0)
  of-some (y ∷ ys) zero x passes =
      let here : p y ≡ true = ap p (same_Some y x passes.0) ∙ passes.1 in
      subst (λ t. 1 ≤ length (cond t (y ∷ filter p ys) (filter p ys))) (sym here) (omega arith)
  of-some (y ∷ ys) (suc i) x passes =
      let rest = of-some ys i x passes in
      let more = one-more (p y) y (filter p ys) in
      omega (arith, rest, more)

  pub twice-of : (xs : List X) → 2 ≤ length (filter p xs) → Twice xs
  twice-of [] le = absurd (omega (arith, le))
  twice-of (y ∷ ys) le = go (p y) refl le (twice-of ys)
    where
      go : (test : Bool) → p y ≡ test → 2 ≤ length (cond test (y ∷ filter p ys) (filter p ys))
          → (2 ≤ length (filter p ys) → Twice ys) → Twice (y ∷ ys)
      go true is more rest =
          let found = some-of ys (omega (arith, more)) in record {
            place = zero;
            later = suc found.0;
            one = y;
            other = found.1;
            apart = omega arith;
            first = (refl, is);
            second = found.2;
          }
      go false is more rest = behind ys y (rest more)

  pub of-twice : (xs : List X) (i j : ℕ) (x y : X) → i < j → PassesAt xs i x → PassesAt xs j y
      → 2 ≤ length (filter p xs)
  of-twice [] i j x y lt one other = absurd (none-some x one.0)
  of-twice (z ∷ zs) i zero x y lt one other = absurd (omega (arith, lt))
  of-twice (z ∷ zs) zero (suc j) x y lt one other =
      let here : p z ≡ true = ap p (same_Some z x one.0) ∙ one.1 in
      let rest = of-some zs j y other in
      subst (λ t. 2 ≤ length (cond t (z ∷ filter p zs) (filter p zs))) (sym here) (omega (arith, rest))
  of-twice (z ∷ zs) (suc i) (suc j) x y lt one other =
      let rest = of-twice zs i j x y (omega (arith, lt)) one other in
      let more = one-more (p z) z (filter p zs) in
      omega (arith, rest, more)

  -- what passes is found, where nothing else passes
  pub only-found : (xs : List X) (i : ℕ) (x : X) → nat_le 2 (length (filter p xs)) ≡ false → PassesAt xs i x
      → find p xs ≡ Some x
  only-found xs i x few passes = elim (search_of p xs) [
    | inl absent ↦ absurd (let no_way = sym (absent.fails i x passes.0) ∙ passes.1 in cc)
    | inr found ↦
        let never : 2 ≤ length (filter p xs) → ⊥ = λ two. let yes = sym few ∙ two-to _ two in cc in
        let here : PassesAt xs found.0 found.1 = (found.2.at, found.2.passes) in
        let same : found.0 ≡ i = only found.0 i
        (λ lt. never (of-twice xs found.0 i found.1 x lt here passes))
        (λ lt. never (of-twice xs i found.0 x found.1 lt passes here)) in
        let same_x : found.1 ≡ x =
        same_Some found.1 x (sym found.2.at ∙ ap (slice_get xs) same ∙ passes.0) in
        found.2.sought ∙ ap Some same_x
  ]
    where
      only : (a b : ℕ) → (a < b → ⊥) → (b < a → ⊥) → a ≡ b
      only a b below above = elim (cases_lt a b) [
        | inl lt ↦ absurd (below lt)
        | inr ge ↦ elim (cases_lt b a) [
          | inl lt ↦ absurd (above lt)
          | inr le ↦ omega (arith, ge, le)
        ]
      ]
