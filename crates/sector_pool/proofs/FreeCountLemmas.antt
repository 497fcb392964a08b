-- How many sectors of a pool are free, after a lease and after it is given back.
use Rattle.std.proofs.Common.{◌≡◌, ℕ, suc, ◌+◌, ◌<◌, Bool, true, false, List, [], ◌∷◌, arith, length, cond, refl, ◌∙◌}
use Rattle.std.specs.Prelude.{◌↔◌, All, Option, None, Some, IsNone, IsSome, IfSome, IfNone, not, count_by, slice_get}
use Rattle.std.proofs.lemmas.List.Sums.{sum_by-set, sum_by-cons}
use Rattle.std.proofs.lemmas.Option.{slice_get_within, get_or_from_slice_get}
use Rattle.sector_pool.specs.Pool.{Pool, HasFree, free_count, leased, returned}
use Rattle.sector_pool.proofs.PlaceLemmas.{slice_get-set_same, slice_get-set_other, is_other}

abbrev one_if_free : Bool → ℕ
one_if_free is_out = cond (not is_out) 1 0

-- where all are out none is free
pub count_by-All : (out : List Bool) → All (λ is_out. is_out ≡ true) out → count_by not out ≡ 0
count_by-All [] all = refl
count_by-All (is_out ∷ rest) all =
    let here : is_out ≡ true = all 0 true (omega arith) in
    let others : All (λ one. one ≡ true) rest = λ k d within. all (suc k) d (omega arith) in
    rw (sum_by-cons one_if_free is_out rest, here) (omega (arith, count_by-All rest others))

-- a lease takes one from the free sectors
pub free_count-leased : (pool : Pool) (k : ℕ) → slice_get pool.out k ≡ Some false
    → free_count (leased pool k) + 1 ≡ free_count pool
free_count-leased pool k was_free =
    let within : k < length pool.out = slice_get_within _ _ _ was_free in
    let moved = sum_by-set one_if_free pool.out k true true within in
    let was = get_or_from_slice_get pool.out k false true was_free in
    omega (arith, rw was at moved)

-- one that is not out is enough
pub has_free : (pool : Pool) (k : ℕ) → slice_get pool.out k ≡ Some false → HasFree pool
has_free pool k was_free = omega (arith, free_count-leased pool k was_free)

pub none_free : (pool : Pool) → All (λ is_out. is_out ≡ true) pool.out → HasFree pool → ⊥
none_free pool all free = let none = count_by-All pool.out all in omega (arith, none, free)

-- what is given back is free
pub free_count-returned : (pool : Pool) (k : ℕ) → slice_get pool.out k ≡ Some true
    → free_count (returned pool k) ≡ free_count pool + 1
free_count-returned pool k was_out =
    let within : k < length pool.out = slice_get_within _ _ _ was_out in
    let moved = sum_by-set one_if_free pool.out k false true within in
    let was = get_or_from_slice_get pool.out k true true was_out in
    omega (arith, rw was at moved)

-- a lease comes where some sector is free
pub lent_if_free : (pool : Pool) (lease : Option ℕ) → (IsNone lease ↔ All (λ is_out. is_out ≡ true) pool.out)
    → HasFree pool → IsSome lease
lent_if_free pool None none free = absurd (let all_out = count_by-All pool.out (none.0 refl) in omega arith)
lent_if_free pool (Some k) none free = refl

-- what is lent is out
pub out_if_lent : (old new : Pool) (lease : Option ℕ) → IfSome lease (λ k. slice_get old.out k ≡ Some false)
    → IfSome lease (λ k. new ≡ leased old k) → IfSome lease (λ k. slice_get new.out k ≡ Some true)
out_if_lent old new None was_free lent = tt
out_if_lent old new (Some k) was_free lent = rw lent (slice_get-set_same old.out k false true was_free)

-- what was out is out after a lease of another number
pub still_out : (pool : Pool) (j k : ℕ) → slice_get pool.out j ≡ Some true → slice_get pool.out k ≡ Some false
    → slice_get (leased pool k).out j ≡ Some true
still_out pool j k was_out was_free = slice_get-set_other pool.out k j true (is_other pool.out j k was_out was_free)
    ∙ was_out

-- what was out is out after a call that may have lent a sector
pub still_out_if_lent : (old new : Pool) (lease : Option ℕ) → IfSome lease (λ k. slice_get old.out k ≡ Some false)
    → IfSome lease (λ k. new ≡ leased old k) → IfNone lease (new ≡ old) → (j : ℕ) → slice_get old.out j ≡ Some true
    → slice_get new.out j ≡ Some true
still_out_if_lent old new None was_free lent unchanged j was_out = rw unchanged was_out
still_out_if_lent old new (Some k) was_free lent unchanged j was_out = rw lent (still_out old j k was_out was_free)
