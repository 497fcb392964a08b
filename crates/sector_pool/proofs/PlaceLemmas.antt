-- An element of a list in which one element was set.
use Rattle.std.proofs.Common.{◌≡◌, ◌≢◌, ℕ, zero, suc, Bool, true, false, List, [], ◌∷◌, refl, ap}
use Rattle.std.specs.Prelude.{Some, slice_get, slice_set}

pub slice_get-set_other : {X : Type 0} (xs : List X) (i j : ℕ) (y : X) → j ≢ i
    → slice_get (slice_set xs i y) j ≡ slice_get xs j
slice_get-set_other [] i j y other = refl
slice_get-set_other (x ∷ xs) zero zero y other = absurd (other refl)
slice_get-set_other (x ∷ xs) zero (suc j) y other = refl
slice_get-set_other (x ∷ xs) (suc i) zero y other = refl
slice_get-set_other (x ∷ xs) (suc i) (suc j) y other =
    slice_get-set_other xs i j y (λ same. other (ap suc same))

pub slice_get-set_same : {X : Type 0} (xs : List X) (i : ℕ) (x y : X) → slice_get xs i ≡ Some x
    → slice_get (slice_set xs i y) i ≡ Some y
slice_get-set_same [] i x y here = cc
slice_get-set_same (z ∷ xs) zero x y here = refl
slice_get-set_same (z ∷ xs) (suc i) x y here = slice_get-set_same xs i x y here

-- an element that is set and then set back is as it was
pub set_back : {X : Type 0} (xs : List X) (i : ℕ) (x y : X) → slice_get xs i ≡ Some x
    → slice_set (slice_set xs i y) i x ≡ xs
set_back [] i x y here = cc
set_back (z ∷ xs) zero x y here = cc
set_back (z ∷ xs) (suc i) x y here = ap (λ rest. z ∷ rest) (set_back xs i x y here)

-- a number that is out is another than one that is free
pub is_other : (out : List Bool) (j k : ℕ) → slice_get out j ≡ Some true → slice_get out k ≡ Some false → j ≢ k
is_other out j k was_out was_free same = let at_j = ap (λ i. slice_get out i) same in cc
