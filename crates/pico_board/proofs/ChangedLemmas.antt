-- What stands where in a list that is changed in a range.
use Rattle.std.proofs.Common.{◌≡◌, ◌⊎◌, ℕ, zero, suc, ◌+◌, ◌-◌, ◌<◌, ◌≤◌, true, false, ◌&&◌, cond, nat_le, nat_lt, List, [], ◌∷◌, length, get_or, set, refl, sym, ◌∙◌, ap, subst, inl, inr, arith, length-set}
use Rattle.std.proofs.lemmas.Bool.Decides.{nat_tests}
use Rattle.std.proofs.lemmas.Bool.{cases_lt, cases_eq}
use Rattle.std.proofs.lemmas.List.{ext_get_or, get_or-set_same, get_or-set_other}
use Rattle.pico_board.specs.Steps.{changed, changed_from, SameOutside}

-- the test of a place in the range
in_range : (at k n : ℕ) → at ≤ k → k < at + n → (nat_le at k && nat_lt k (at + n)) ≡ true
in_range at k n low high = grind (arith, nat_tests)

-- the test of a place out of the range
out_of_range : (at k n : ℕ) → (k < at) ⊎ (at + n ≤ k) → (nat_le at k && nat_lt k (at + n)) ≡ false
out_of_range at k n out = grind (arith, nat_tests)

length-changed_from : (k : ℕ) (f : ℕ → ℕ → ℕ) (at n : ℕ) (xs : List ℕ) → length (changed_from k f at n xs) ≡ length xs
length-changed_from k f at n [] = refl
length-changed_from k f at n (x ∷ xs) = ap suc (length-changed_from (k + 1) f at n xs)

pub length-changed : (f : ℕ → ℕ → ℕ) (at n : ℕ) (xs : List ℕ) → length (changed f at n xs) ≡ length xs
length-changed f at n xs = length-changed_from 0 f at n xs

inside_from : (k : ℕ) (f : ℕ → ℕ → ℕ) (at n : ℕ) (xs : List ℕ) (i : ℕ) → at ≤ k + i → k + i < at + n → i < length xs
    → get_or (changed_from k f at n xs) i 0 ≡ f (k + i - at) (get_or xs i 0)
inside_from k f at n [] i low high within = absurd (omega arith)
inside_from k f at n (x ∷ xs) zero low high within =
    let e : (nat_le at k && nat_lt k (at + n)) ≡ true = in_range at k n (omega arith) (omega arith) in
    ap (λ b. cond b (f (k - at) x) x) e ∙ ap (λ (j : ℕ). f (j - at) x) (omega arith)
inside_from k f at n (x ∷ xs) (suc i) low high within =
    inside_from (k + 1) f at n xs i (omega arith) (omega arith) (omega arith)
    ∙ ap (λ (j : ℕ). f (j - at) (get_or xs i 0)) (omega arith)

outside_from : (k : ℕ) (f : ℕ → ℕ → ℕ) (at n : ℕ) (xs : List ℕ) (i : ℕ) → (k + i < at) ⊎ (at + n ≤ k + i)
    → get_or (changed_from k f at n xs) i 0 ≡ get_or xs i 0
outside_from k f at n [] i out = refl
outside_from k f at n (x ∷ xs) zero out =
    let e : (nat_le at k && nat_lt k (at + n)) ≡ false = out_of_range at k n (grind arith) in
    ap (λ b. cond b (f (k - at) x) x) e
outside_from k f at n (x ∷ xs) (suc i) out = outside_from (k + 1) f at n xs i (moved k i at (at + n) out)
  where
    moved : (k i at end : ℕ) → (k + suc i < at) ⊎ (end ≤ k + suc i) → (k + 1 + i < at) ⊎ (end ≤ k + 1 + i)
    moved k i at end (inl below) = inl (omega arith)
    moved k i at end (inr above) = inr (omega arith)

-- an element in the range
pub changed-inside : (f : ℕ → ℕ → ℕ) (at n : ℕ) (xs : List ℕ) (i : ℕ) → at ≤ i → i < at + n → i < length xs
    → get_or (changed f at n xs) i 0 ≡ f (i - at) (get_or xs i 0)
changed-inside f at n xs i low high within =
    inside_from 0 f at n xs i (omega arith) (omega arith) within
    ∙ ap (λ (j : ℕ). f (j - at) (get_or xs i 0)) (omega arith)

-- an element at place i of the range
pub changed-at : (f : ℕ → ℕ → ℕ) (at n : ℕ) (xs : List ℕ) (i : ℕ) → i < n → at + i < length xs
    → get_or (changed f at n xs) (at + i) 0 ≡ f i (get_or xs (at + i) 0)
changed-at f at n xs i lt within =
    changed-inside f at n xs (at + i) (omega arith) (omega arith) within
    ∙ ap (λ (j : ℕ). f j (get_or xs (at + i) 0)) (omega arith)

-- an element out of the range
pub changed-outside : (f : ℕ → ℕ → ℕ) (at n : ℕ) (xs : List ℕ) (i : ℕ) → (i < at) ⊎ (at + n ≤ i)
    → get_or (changed f at n xs) i 0 ≡ get_or xs i 0
changed-outside f at n xs i (inl below) = outside_from 0 f at n xs i (inl (omega arith))
changed-outside f at n xs i (inr above) = outside_from 0 f at n xs i (inr (omega arith))

-- a change in a range keeps what is outside it
pub changed-same : (f : ℕ → ℕ → ℕ) (at n : ℕ) (xs : List ℕ) → SameOutside at n xs (changed f at n xs)
changed-same f at n xs = record {
  long = length-changed f at n xs;
  below = λ i lt. changed-outside f at n xs i (inl lt);
  above = λ i le. changed-outside f at n xs i (inr le);
}

-- a range of no element
pub changed_none : (f : ℕ → ℕ → ℕ) (at : ℕ) (xs : List ℕ) → changed f at 0 xs ≡ xs
changed_none f at xs = ext_get_or 0 _ _ (length-changed f at 0 xs) (λ k lt. changed-outside f at 0 xs k (split k))
  where
    split : (k : ℕ) → (k < at) ⊎ (at + 0 ≤ k)
    split k = elim (cases_lt k at) [ inl lt ↦ inl lt | inr le ↦ inr (omega arith) ]

-- one more element of the range
pub changed_more : (f : ℕ → ℕ → ℕ) (at n : ℕ) (xs : List ℕ) → at + n < length xs
    → changed f at (n + 1) xs ≡ set (changed f at n xs) (at + n) (f n (get_or xs (at + n) 0))
changed_more f at n xs within =
    ext_get_or 0 (changed f at (n + 1) xs) (set (changed f at n xs) (at + n) (f n (get_or xs (at + n) 0)))
    (length-changed f at (n + 1) xs
    ∙ sym (length-set (changed f at n xs) (at + n) (f n (get_or xs (at + n) 0)) ∙ length-changed f at n xs))
    (λ k lt. each k (omega (arith, lt, length-changed f at (n + 1) xs)))
  where
    short : at + n < length (changed f at n xs)
    short = omega (arith, length-changed f at n xs)

    other : (k : ℕ) → k < length xs → (k ≡ at + n → ⊥)
        → get_or (changed f at (n + 1) xs) k 0 ≡ get_or (changed f at n xs) k 0
    other k lt ne = elim (cases_lt k at) [
      | inl below ↦ changed-outside f at (n + 1) xs k (inl below) ∙ sym (changed-outside f at n xs k (inl below))
      | inr above ↦ elim (cases_lt k (at + n)) [
        | inl inside ↦ changed-inside f at (n + 1) xs k above (omega arith) lt
            ∙ sym (changed-inside f at n xs k above inside lt)
        | inr past ↦ changed-outside f at (n + 1) xs k (inr (omega arith))
            ∙ sym (changed-outside f at n xs k (inr past))
      ]
    ]

    here : (k : ℕ) → k ≡ at + n → get_or (changed f at (n + 1) xs) k 0
        ≡ get_or (set (changed f at n xs) (at + n) (f n (get_or xs (at + n) 0))) k 0
    here k same =
        let e : get_or (changed f at (n + 1) xs) (at + n) 0
        ≡ get_or (set (changed f at n xs) (at + n) (f n (get_or xs (at + n) 0))) (at + n) 0 =
        changed-at f at (n + 1) xs n (omega arith) within
        ∙ sym (get_or-set_same (changed f at n xs) (at + n) (f n (get_or xs (at + n) 0)) 0 short) in
        subst (λ (j : ℕ). get_or (changed f at (n + 1) xs) j 0
        ≡ get_or (set (changed f at n xs) (at + n) (f n (get_or xs (at + n) 0))) j 0) (sym same) e

    each : (k : ℕ) → k < length xs
        → get_or (changed f at (n + 1) xs) k 0
        ≡ get_or (set (changed f at n xs) (at + n) (f n (get_or xs (at + n) 0))) k 0
    each k lt = elim (cases_eq k (at + n)) [
      | inl same ↦ here k same
      | inr ne ↦ other k lt ne ∙ sym (get_or-set_other (changed f at n xs) (at + n) k (f n (get_or xs (at + n) 0)) 0 ne)
    ]

-- what the loops that write a range cite
pub ruleset changed_steps = (changed_none, changed_more, length-changed, changed-at, changed-outside)
