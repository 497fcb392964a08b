-- Lists whose elements are apart in pairs, by their first element.
use Rattle.std.proofs.Common.{◌≡◌, ◌↔◌, ℕ, suc, ◌≤◌, Bool, false, List, [], ◌∷◌, length, drop, slice_index, All, sym, subst, ◌∙◌, arith}
use Rattle.std.specs.Prelude.{AllPairs, IsTrue}
use Rattle.std.proofs.lemmas.Bool.{false≢true}
use Rattle.std.proofs.lemmas.List.Kept.{AllPairs-cons}
use Rattle.otp_roll.specs.Rows.{AreRowsApart}

pairs-first : (x : ℕ) (xs : List ℕ) → AllPairs AreRowsApart (x ∷ xs) → All (AreRowsApart x) xs
pairs-first x xs ps k d lt = ps 0 (suc k) d (omega arith) (omega (arith, lt))

pairs-rest : (x : ℕ) (xs : List ℕ) → AllPairs AreRowsApart (x ∷ xs) → AllPairs AreRowsApart xs
pairs-rest x xs ps i j d below lt = ps (suc i) (suc j) d (omega (arith, below)) (omega (arith, lt))

-- where the first one is apart from the others, that they are in pairs decides
pub apart-then : (all rest : List ℕ) (more : Bool) → 1 ≤ length all → rest ≡ drop 1 all
    → All (AreRowsApart (slice_index all 0)) rest → (IsTrue more ↔ AllPairs AreRowsApart rest)
    → (IsTrue more ↔ AllPairs AreRowsApart all)
apart-then [] rest more some is apart decides = absurd (omega (arith, some))
apart-then (x ∷ xs) rest more some is apart decides = (
  λ t. AllPairs-cons AreRowsApart x xs (subst (λ (ys : List ℕ). All (AreRowsApart x) ys) is apart)
      (subst (λ (ys : List ℕ). AllPairs AreRowsApart ys) is (decides.0 t)),
  λ ps. decides.1 (subst (λ (ys : List ℕ). AllPairs AreRowsApart ys) (sym is) (pairs-rest x xs ps)),
)

-- where it is not, they are not all apart
pub apart-else : (all rest : List ℕ) (r : Bool) → 1 ≤ length all → rest ≡ drop 1 all → r ≡ false
    → (IsTrue r ↔ All (AreRowsApart (slice_index all 0)) rest) → (IsTrue r ↔ AllPairs AreRowsApart all)
apart-else [] rest r some is no_ decides = absurd (omega (arith, some))
apart-else (x ∷ xs) rest r some is no_ decides = (
  λ t. absurd (false≢true (sym no_ ∙ t)),
  λ ps. decides.1 (subst (λ (ys : List ℕ). All (AreRowsApart x) ys) (sym is) (pairs-first x xs ps)),
)
