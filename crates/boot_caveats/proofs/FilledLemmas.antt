-- Values that are one less than a power of two.
use Rattle.std.proofs.Common.{◌≡◌, ◌≢◌, ℕ, zero, suc, ◌+◌, ◌-◌, ◌^◌, ◌<◌, ◌≤◌, ◌==◌, ◌||◌, Bool, true, false, refl, sym, ap, ◌∙◌, arith}
use Rattle.std.specs.Bool.{Decides}
use Rattle.std.specs.List.{list_any, range_with_len}
use Rattle.std.proofs.lemmas.Bool.{eqb-true, eq-eqb}
use Rattle.boot_caveats.specs.StartCaveats.{is_filled_from}
use Rattle.slot_caveats.proofs.MoreLemmas.{range-first}

step : (p : ℕ → Bool) (k n : ℕ) → 0 < n → list_any p (range_with_len k n)
    ≡ (p k || list_any p (range_with_len (k + 1) (n - 1)))
step p k n some = ap (list_any p) (range-first k n some)

or-true : (a b : Bool) → a ≡ true → (a || b) ≡ true
or-true true b e = refl
or-true false b e = cc

or-false : (a b : Bool) → a ≡ false → (a || b) ≡ b
or-false true b e = cc
or-false false b e = refl

pub filled-here : (value k : ℕ) → k < 25 → value + 1 ≡ 2 ^ k → is_filled_from value k ≡ true
unfolding is_filled_from
filled-here value k lt e =
    step (λ j. value + 1 == 2 ^ j) k (25 - k) (omega arith)
    ∙ or-true (value + 1 == 2 ^ k) (list_any (λ j. value + 1 == 2 ^ j) (range_with_len (k + 1) (25 - k - 1)))
    (eq-eqb (value + 1) (2 ^ k) e)

pub filled-more : (value k : ℕ) → k < 25 → value + 1 ≢ 2 ^ k → is_filled_from value k ≡ is_filled_from value (k + 1)
unfolding is_filled_from
filled-more value k lt never =
    step (λ j. value + 1 == 2 ^ j) k (25 - k) (omega arith)
    ∙ (or-false (value + 1 == 2 ^ k) (list_any (λ j. value + 1 == 2 ^ j) (range_with_len (k + 1) (25 - k - 1)))
    (apart (value + 1) (2 ^ k) never)
    ∙ ap (λ n. list_any (λ j. value + 1 == 2 ^ j) (range_with_len (k + 1) n)) (less k))
  where
    apart : (m n : ℕ) → m ≢ n → (m == n) ≡ false
    apart m n never = go (m == n) refl
      where
        go : (b : Bool) → (m == n) ≡ b → b ≡ false
        go true e = absurd (never (eqb-true m n e))
        go false e = refl

    less : (k : ℕ) → 25 - k - 1 ≡ 25 - (k + 1)
    less k = omega arith

pub filled-end : (value k : ℕ) → 25 ≤ k → is_filled_from value k ≡ false
unfolding is_filled_from
filled-end value k le = ap (λ n. list_any (λ j. value + 1 == 2 ^ j) (range_with_len k n)) (none k le)
  where
    none : (k : ℕ) → 25 ≤ k → 25 - k ≡ 0
    none k le = omega arith

by-search : (value : ℕ) (n k : ℕ) → k + n ≡ 25 → is_filled_from value k ≡ true
    → (j : ℕ) × (j ≤ 24) × (value + 1 ≡ 2 ^ j)
by-search value zero k e is = absurd (apart (is_filled_from value k) is (filled-end value k (omega arith)))
  where
    apart : (b : Bool) → b ≡ true → b ≡ false → ⊥
    apart b e f = cc
by-search value (suc n) k e is = go (value + 1 == 2 ^ k) refl (λ h. by-search value n (k + 1) (omega arith) h)
  where
    go : (b : Bool) → (value + 1 == 2 ^ k) ≡ b
        → (is_filled_from value (k + 1) ≡ true → (j : ℕ) × (j ≤ 24) × (value + 1 ≡ 2 ^ j))
        → (j : ℕ) × (j ≤ 24) × (value + 1 ≡ 2 ^ j)
    go true h rest = (k, below k n e, eqb-true (value + 1) (2 ^ k) h)
      where
        below : (k n : ℕ) → k + suc n ≡ 25 → k ≤ 24
        below k n e = omega arith
    go false h rest = rest (sym (filled-more value k (below k n e) (differ (value + 1) (2 ^ k) h)) ∙ is)
      where
        below : (k n : ℕ) → k + suc n ≡ 25 → k < 25
        below k n e = omega arith

        differ : (m n : ℕ) → (m == n) ≡ false → m ≢ n
        differ m n h same = let this : (m == n) ≡ true = eq-eqb m n same in cc

found-up : (value j : ℕ) → j ≤ 24 → value + 1 ≡ 2 ^ j → (n k : ℕ) → k + n ≡ j → is_filled_from value k ≡ true
found-up value j le e zero k sum = filled-here value k (low k j sum le) (e ∙ ap (λ x. 2 ^ x) (same k j sum))
  where
    low : (k j : ℕ) → k + 0 ≡ j → j ≤ 24 → k < 25
    low k j sum le = omega arith

    same : (k j : ℕ) → k + 0 ≡ j → j ≡ k
    same k j sum = omega arith
found-up value j le e (suc n) k sum = go (value + 1 == 2 ^ k) refl (found-up value j le e n (k + 1) (omega arith))
  where
    low : (k n j : ℕ) → k + suc n ≡ j → j ≤ 24 → k < 25
    low k n j sum le = omega arith

    go : (b : Bool) → (value + 1 == 2 ^ k) ≡ b → is_filled_from value (k + 1) ≡ true → is_filled_from value k ≡ true
    go true h rest = filled-here value k (low k n j sum le) (eqb-true (value + 1) (2 ^ k) h)
    go false h rest = filled-more value k (low k n j sum le) (differ (value + 1) (2 ^ k) h) ∙ rest
      where
        differ : (m n : ℕ) → (m == n) ≡ false → m ≢ n
        differ m n h same = let this : (m == n) ≡ true = eq-eqb m n same in cc

pub filled-decides : (value : ℕ) → Decides (is_filled_from value 0) ((k : ℕ) × (k ≤ 24) × (value + 1 ≡ 2 ^ k))
filled-decides value = (by-search value 25 0 refl, λ is. found-up value is.0 is.1 is.2 is.0 0 (omega arith))
