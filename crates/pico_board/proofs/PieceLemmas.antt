-- A range that is taken piece by piece.
use Rattle.std.proofs.Common.{◌≡◌, ℕ, ◌+◌, ◌-◌, List, ◌++◌, drop, arith, refl, append_assoc}
use Rattle.std.specs.Prelude.{slice_range}
use Rattle.std.proofs.Math.Seq.{take-add}
use Rattle.std.proofs.lemmas.List.{drop-drop}

-- a range that goes on for n elements
pub range-add : (xs : List ℕ) (s d n : ℕ)
    → slice_range xs s (s + (d + n)) ≡ slice_range xs s (s + d) ++ slice_range xs (s + d) (s + d + n)
range-add xs s d n =
    let one : s + (d + n) - s ≡ d + n = omega arith in
    let two : s + d - s ≡ d = omega arith in
    let three : s + d + n - (s + d) ≡ n = omega arith in
    rw (one, two, three, take-add d n (drop s xs), drop-drop d s xs) refl

-- what went before, the front of the range and the next piece of it
pub range-more : (xs before piece : List ℕ) (s d n k : ℕ) → k ≡ n → piece ≡ slice_range xs (s + d) (s + d + k)
    → (before ++ slice_range xs s (s + d)) ++ piece ≡ before ++ slice_range xs s (s + (d + n))
range-more xs before piece s d n k long is =
    rw (is, long, range-add xs s d n)
    (append_assoc before (slice_range xs s (s + d)) (slice_range xs (s + d) (s + d + n)))
