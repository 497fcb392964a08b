-- Lists of the numbers that pass a test.
use Rattle.std.proofs.Common.{◌≡◌, ◌≢◌, ℕ, zero, suc, ◌+◌, ◌<◌, ◌≤◌, ◌⊎◌, inl, inr, Bool, true, false, cond, List, ◌∷◌, refl, sym, ◌∙◌, ap, subst, arith, Some, slice_get, filter}
use Rattle.std.proofs.lemmas.Bool.{cases_eq, cases_lt}
use Rattle.std.specs.List.{range_with_len}

-- an element of a list to which a test may have added one is that one or was there
added : (yes : Bool) (a : ℕ) (rest : List ℕ) (j i : ℕ) → slice_get (cond yes (a ∷ rest) rest) j ≡ Some i
    → ((yes ≡ true) × (i ≡ a)) ⊎ ((k : ℕ) × (slice_get rest k ≡ Some i))
added true a rest zero i at = inl (refl, cc)
added true a rest (suc j) i at = inr (j, at)
added false a rest j i at = inr (j, at)

-- an element of a list is one of the list to which a test may have added one
kept : (yes : Bool) (a : ℕ) (rest : List ℕ) (i k : ℕ) → slice_get rest k ≡ Some i
    → (l : ℕ) × (slice_get (cond yes (a ∷ rest) rest) l ≡ Some i)
kept true a rest i k at = (suc k, at)
kept false a rest i k at = (k, at)

-- a list of rising numbers above one that a test may have added in front rises
rises : (yes : Bool) (a : ℕ) (rest : List ℕ) → ((k y : ℕ) → slice_get rest k ≡ Some y → a < y)
    → ((j k x y : ℕ) → j < k → slice_get rest j ≡ Some x → slice_get rest k ≡ Some y → x < y)
    → (j k x y : ℕ) → j < k → slice_get (cond yes (a ∷ rest) rest) j ≡ Some x
    → slice_get (cond yes (a ∷ rest) rest) k ≡ Some y → x < y
rises true a rest above rising zero zero x y lt one two = absurd (omega arith)
rises true a rest above rising zero (suc k) x y lt one two =
    let same : a ≡ x = cc in
    subst (λ b. b < y) same (above k y two)
rises true a rest above rising (suc j) zero x y lt one two = absurd (omega arith)
rises true a rest above rising (suc j) (suc k) x y lt one two = rising j k x y (omega arith) one two
rises false a rest above rising j k x y lt one two = rising j k x y lt one two

module _ (test : ℕ → Bool) where
  -- a number of the list is in the range and passes the test
  pub passing : (a n j i : ℕ) → slice_get (filter test (range_with_len a n)) j ≡ Some i
      → (a ≤ i) × (i < a + n) × (test i ≡ true)
  passing a zero j i at = cc
  passing a (suc n) j i at =
      elim (added (test a) a (filter test (range_with_len (a + 1) n)) j i at) [
        | inl here ↦ (omega arith, omega arith, subst (λ b. test b ≡ true) (sym here.1) here.0)
        | inr later ↦
            let rest : (a + 1 ≤ i) × (i < a + 1 + n) × (test i ≡ true) = passing (a + 1) n later.0 i later.1 in
            (omega arith, omega arith, rest.2)
      ]

  -- the numbers of the list rise
  pub rising : (a n j k x y : ℕ) → j < k → slice_get (filter test (range_with_len a n)) j ≡ Some x
      → slice_get (filter test (range_with_len a n)) k ≡ Some y → x < y
  rising a zero j k x y lt one two = cc
  rising a (suc n) j k x y lt one two =
      rises (test a) a (filter test (range_with_len (a + 1) n)) (λ l z at. omega (arith, (passing (a + 1) n l z at).0))
      (rising (a + 1) n) j k x y lt one two

  -- two places of the list have two numbers
  pub different : (a n j k x y : ℕ) → j ≢ k → slice_get (filter test (range_with_len a n)) j ≡ Some x
      → slice_get (filter test (range_with_len a n)) k ≡ Some y → x ≢ y
  different a n j k x y differ one two =
      elim (cases_lt j k) [
        | inl before ↦ (let up : x < y = rising a n j k x y before one two in λ same. absurd (omega arith))
        | inr behind ↦ (let up : y < x = rising a n k j y x (omega arith) two one in λ same. absurd (omega arith))
      ]

  -- a number of the range that passes the test has its place in the list
  pub listed : (a n i : ℕ) → a ≤ i → i < a + n → test i ≡ true
      → (k : ℕ) × (slice_get (filter test (range_with_len a n)) k ≡ Some i)
  listed a zero i le lt passes = absurd (omega (arith, le, lt))
  listed a (suc n) i le lt passes =
      elim (cases_eq a i) [
        | inl same ↦ (
          0,
          ap (λ yes. slice_get (cond yes (a ∷ filter test (range_with_len (a + 1) n))
              (filter test (range_with_len (a + 1) n))) 0)
              (ap test same ∙ passes)
              ∙ ap Some same,
        )
        | inr other ↦
            let rest : (k : ℕ) × (slice_get (filter test (range_with_len (a + 1) n)) k ≡ Some i) =
            listed (a + 1) n i (omega (arith, le, other)) (omega (arith, lt)) passes in
            kept (test a) a (filter test (range_with_len (a + 1) n)) i rest.0 rest.1
      ]
