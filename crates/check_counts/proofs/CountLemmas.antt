-- Counts over lists that grow by one element at their end.
use Rattle.std.proofs.Common.{◌≡◌, ℕ, ◌+◌, ◌<◌, Bool, true, false, ◌||◌, cond, List, [], ◌∷◌, ◌++◌, length, refl, sym, ap, ◌∙◌, arith}
use Rattle.std.specs.Prelude.{count_by, map, min, replicate}
use Rattle.std.specs.List.{list_any}
use Rattle.std.proofs.lemmas.List.Sums.{count_by-le-length, sum_by-append}
use Rattle.std.proofs.lemmas.List.Folds.{list_any-append}
use Rattle.check_counts.specs.Tallies.{counted, counted_each}

-- how many pass of a list and a further element
count-last : {X : Type 0} (p : X → Bool) (xs : List X) (x : X) (b : Bool) → p x ≡ b
    → count_by p (xs ++ x ∷ []) ≡ count_by p xs + (0 + cond b 1 0)
count-last p xs x b e =
    sum_by-append (λ y. cond (p y) 1 0) xs (x ∷ []) ∙ ap (λ c. count_by p xs + (0 + cond c 1 0)) e

-- one count more
pub count-more : {X : Type 0} (p : X → Bool) (xs : List X) (x : X) → length xs < 0xffff_ffff
    → counted (count_by p xs) (p x) ≡ count_by p (xs ++ x ∷ [])
count-more p xs x few = by (p x) refl
  where
    below : count_by p xs < 0xffff_ffff
    below = let most = count_by-le-length p xs in omega (arith, most, few)

    stays : (n : ℕ) → n < 0xffff_ffff → min (n + 1) 0xffff_ffff ≡ n + (0 + cond true 1 0)
    stays n lt = grind arith

    same : (n : ℕ) → n ≡ n + (0 + cond false 1 0)
    same n = omega arith

    by : (b : Bool) → p x ≡ b → counted (count_by p xs) b ≡ count_by p (xs ++ x ∷ [])
    by true e = stays (count_by p xs) below ∙ sym (count-last p xs x true e)
    by false e = same (count_by p xs) ∙ sym (count-last p xs x false e)

-- nothing passes
pub count-none : {X : Type 0} (p : X → Bool) (xs : List X) → list_any p xs ≡ false → count_by p xs ≡ 0
count-none p [] none = refl
count-none p (x ∷ xs) none = by (p x) refl (count-none p xs)
  where
    apart : (b : Bool) → b ≡ false → b ≡ true → ⊥
    apart true f g = cc
    apart false f g = cc

    whole : (b : Bool) → p x ≡ b → count_by p (x ∷ xs) ≡ (0 + cond b 1 0) + count_by p xs
    whole b e =
        sum_by-append (λ y. cond (p y) 1 0) (x ∷ []) xs ∙ ap (λ c. (0 + cond c 1 0) + count_by p xs) e

    by : (b : Bool) → p x ≡ b → (list_any p xs ≡ false → count_by p xs ≡ 0) → count_by p (x ∷ xs) ≡ 0
    by true e rest = absurd (apart (p x || list_any p xs) none (ap (λ b. b || list_any p xs) e))
    by false e rest =
        whole false e
        ∙ ap (λ n. (0 + cond false 1 0) + n) (rest (sym (ap (λ b. b || list_any p xs) e) ∙ none))

-- a test of one element more
pub any-more : {X : Type 0} (p : X → Bool) (xs : List X) (x : X)
    → (list_any p xs || p x) ≡ list_any p (xs ++ x ∷ [])
any-more p xs x = sym (list_any-append p xs (x ∷ []) ∙ ap (λ b. list_any p xs || b) (or-false (p x)))
  where
    or-false : (b : Bool) → (b || false) ≡ b
    or-false true = refl
    or-false false = refl

-- the counts of several tests
pub each-more : {W X : Type 0} (p : W → X → Bool) (ws : List W) (xs : List X) (x : X) → length xs < 0xffff_ffff
    → counted_each (map (λ w. count_by (p w) xs) ws) (map (λ w. p w x) ws)
    ≡ map (λ w. count_by (p w) (xs ++ x ∷ [])) ws
each-more p [] xs x few = refl
each-more p (w ∷ ws) xs x few =
    ap (λ n. n ∷ counted_each (map (λ v. count_by (p v) xs) ws) (map (λ v. p v x) ws)) (count-more (p w) xs x few)
    ∙ ap (λ ns. count_by (p w) (xs ++ x ∷ []) ∷ ns) (each-more p ws xs x few)

-- the counts of several tests over nothing
pub each-none : {W X : Type 0} (p : W → X → Bool) (ws : List W)
    → replicate (length ws) 0 ≡ map (λ w. count_by (p w) []) ws
each-none p [] = refl
each-none p (w ∷ ws) = ap (λ ns. 0 ∷ ns) (each-none p ws)
