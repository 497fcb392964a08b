-- A new pool of four has four free sectors.
use Rattle.std.proofs.Common.{◌≡◌, ◌≤◌, IfOk, Bool, false, cond, All, List, [], ◌∷◌, length, refl, arith, Result, Ok, Err}
use Rattle.std.specs.Prelude.{not, count_by}
use Rattle.std.proofs.lemmas.List.Sums.{sum_by-cons}
use Rattle.std.proofs.lemmas.List.Elements.{All-head, All-tail}
use Rattle.sector_pool.specs.Pool.{Pool, IsNewPool, free_count}

count-free : (xs : List Bool) → All (λ b. b ≡ false) xs → count_by not xs ≡ length xs
count-free [] all = refl
count-free (x ∷ xs) all =
    let here : x ≡ false = All-head (λ b. b ≡ false) x xs all in
    let rest = count-free xs (All-tail (λ b. b ≡ false) x xs all) in
    rw (sum_by-cons (λ (b : Bool). cond (not b) 1 0) x xs, here) (omega (arith, rest))

pub four-free : {E : Type 0} (made : Result Pool E) → IfOk made (IsNewPool 4)
    → IfOk made (λ pool. 4 ≤ free_count pool)
four-free (Ok pool) new =
    let all = count-free pool.out new.free in let long = new.numbers in omega (arith, all, long)
four-free (Err fail) new = tt
