-- Searches and filters of the first numbers, and then of one more.
use Rattle.std.proofs.Common.{◌≡◌, ℕ, zero, suc, ◌+◌, ◌-◌, ◌<◌, Bool, true, false, ◌&&◌, cond, List, [], ◌∷◌, ◌++◌, map, filter, find, Some, None, refl, sym, ◌∙◌, ap, arith}
use Rattle.std.specs.List.{range_with_len}
use Rattle.std.specs.Option.{option_or}
use Rattle.std.proofs.lemmas.List.{map-append, append-nil}
use Rattle.std.proofs.lemmas.List.Elements.{filter-append}
use Rattle.std.proofs.lemmas.List.Folds.{find-append}

-- the numbers from a on, in two parts
numbers-in-parts : (a n m b : ℕ) → a + n ≡ b → range_with_len a (n + m) ≡ range_with_len a n ++ range_with_len b m
numbers-in-parts a zero m b e =
    let none : 0 + m ≡ m = omega arith in
    let same : a ≡ b = omega arith in
    ap (range_with_len a) none ∙ ap (λ k. range_with_len k m) same
numbers-in-parts a (suc n) m b e =
    let more : suc n + m ≡ suc (n + m) = omega arith in
    ap (range_with_len a) more ∙ ap (λ ks. a ∷ ks) (numbers-in-parts (a + 1) n m b (omega arith))

-- the numbers that pass, with one more
pub passing-more : (p : ℕ → Bool) (n : ℕ)
    → filter p (range_with_len 0 (n + 1)) ≡ filter p (range_with_len 0 n) ++ cond (p n) (n ∷ []) []
passing-more p n =
    ap (filter p) (numbers-in-parts 0 n 1 n (omega arith)) ∙ filter-append p (range_with_len 0 n) (n ∷ [])

mapped-by : {X : Type 0} (f : ℕ → X) (xs : List ℕ) (n : ℕ) (yes : Bool)
    → map f (xs ++ cond yes (n ∷ []) []) ≡ map f xs ++ cond yes (f n ∷ []) []
mapped-by f xs n true = map-append f xs (n ∷ [])
mapped-by f xs n false = map-append f xs []

-- what is made of the numbers that pass, with one more
pub mapped-more : {X : Type 0} (f : ℕ → X) (p : ℕ → Bool) (n : ℕ)
    → map f (filter p (range_with_len 0 (n + 1))) ≡ map f (filter p (range_with_len 0 n)) ++ cond (p n) (f n ∷ []) []
mapped-more f p n = ap (map f) (passing-more p n) ∙ mapped-by f (filter p (range_with_len 0 n)) n (p n)

module _ {X : Type 0} (f : ℕ → X) (p : ℕ → Bool) (n : ℕ) (xs : List X)
    (made : xs ≡ map f (filter p (range_with_len 0 n))) where
  -- of a number that passes something is made
  pub made-more : (y : X) → p n ≡ true → y ≡ f n → xs ++ y ∷ [] ≡ map f (filter p (range_with_len 0 (n + 1)))
  made-more y passes same =
      ap (λ ys. ys ++ y ∷ []) made
      ∙ ap (λ z. map f (filter p (range_with_len 0 n)) ++ z ∷ []) same
      ∙ sym (mapped-more f p n ∙ ap (λ b. map f (filter p (range_with_len 0 n)) ++ cond b (f n ∷ []) []) passes)

  -- of a number that fails nothing is made
  pub made-same : p n ≡ false → xs ≡ map f (filter p (range_with_len 0 (n + 1)))
  made-same fails =
      made
      ∙ sym (mapped-more f p n ∙ ap (λ b. map f (filter p (range_with_len 0 n)) ++ cond b (f n ∷ []) []) fails
      ∙ append-nil (map f (filter p (range_with_len 0 n))))

module _ (p q : ℕ → Bool) where
  unpassed : (yes : Bool) (n : ℕ) → (yes && p n) ≡ false → find p (cond yes (n ∷ []) []) ≡ None
  unpassed true n e = ap (λ b. cond b (Some n) None) e
  unpassed false n e = refl

  -- a number that fails either test is passed over
  pub sought-more : (n : ℕ) → find p (filter q (range_with_len 0 n)) ≡ None → (q n && p n) ≡ false
      → find p (filter q (range_with_len 0 (n + 1))) ≡ None
  sought-more n none fails =
      ap (find p) (passing-more q n)
      ∙ find-append p (filter q (range_with_len 0 n)) (cond (q n) (n ∷ []) [])
      ∙ ap (λ o. option_or o (find p (cond (q n) (n ∷ []) []))) none
      ∙ unpassed (q n) n fails

  -- the first number that passes both tests is found
  pub sought-here : (n i : ℕ) → i < n → find p (filter q (range_with_len 0 i)) ≡ None → q i ≡ true → p i ≡ true
      → find p (filter q (range_with_len 0 n)) ≡ Some i
  sought-here n i lt none kept passes =
      let rest : List ℕ = range_with_len (i + 1) (n - (i + 1)) in
      let long : n ≡ i + suc (n - (i + 1)) = omega arith in
      ap (λ k. find p (filter q (range_with_len 0 k))) long
      ∙ ap (λ ks. find p (filter q ks)) (numbers-in-parts 0 i (suc (n - (i + 1))) i (omega arith))
      ∙ ap (find p) (filter-append q (range_with_len 0 i) (i ∷ rest))
      ∙ find-append p (filter q (range_with_len 0 i)) (filter q (i ∷ rest))
      ∙ ap (λ o. option_or o (find p (filter q (i ∷ rest)))) none
      ∙ ap (λ b. find p (cond b (i ∷ filter q rest) (filter q rest))) kept
      ∙ ap (λ b. cond b (Some i) (find p (filter q rest))) passes
