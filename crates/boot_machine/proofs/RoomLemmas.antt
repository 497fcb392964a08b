-- The room that a machine has in its pool: two sectors that are free or the download's.
use Rattle.std.proofs.Common.{◌≡◌, ◌≢◌, inl, inr, ℕ, zero, suc, ◌≤◌, Bool, true, false, cond, List, [], ◌∷◌, arith, Option, None, Some, refl, sym, ap, ◌∙◌}
use Rattle.std.specs.Prelude.{not, count_by, slice_get}
use Rattle.std.proofs.lemmas.List.Sums.{sum_by-cons}
use Rattle.sector_pool.specs.Keeping.{KeepsOut, HandsOver}
use Rattle.sector_pool.specs.Pool.{Pool, HasFree, free_count}
use Rattle.sector_pool.proofs.HandedLemmas.{is_lease}
use Rattle.uf2_place.specs.Downloads.{IsOut}
use Rattle.boot_machine.specs.Standing.{HasRoom, IsMine}

-- a sector that is free is counted
free-one : (out : List Bool) (k : ℕ) → slice_get out k ≡ Some false → 1 ≤ count_by not out
free-one [] k at = cc at
free-one (true ∷ out) zero at = cc at
free-one (false ∷ out) zero at = rw (sum_by-cons (λ (b : Bool). cond (not b) 1 0) false out) (omega arith)
free-one (b ∷ out) (suc k) at =
    let rest = free-one out k at in rw (sum_by-cons (λ (x : Bool). cond (not x) 1 0) b out) (omega (arith, rest))

-- a pool with room has a free sector, whatever the download holds
pub room-free : (pool : Pool) (lease : Option ℕ) → HasRoom pool lease → HasFree pool
room-free pool lease room = by room.one room.two
  where
    both : lease ≡ Some room.first → lease ≡ Some room.second → HasFree pool
    both one two = let same : room.first ≡ room.second = cc (sym one ∙ two) in absurd (room.distinct same)

    by : IsMine pool lease room.first → IsMine pool lease room.second → HasFree pool
    by (inl free) two = free-one pool.out room.first free
    by (inr mine) (inl free) = free-one pool.out room.second free
    by (inr one) (inr two) = both one two

-- what is out is not free
not-both : {P : Type 0} (pool : Pool) (k : ℕ) → slice_get pool.out k ≡ Some false → slice_get pool.out k ≡ Some true → P
not-both pool k free out = let no : Some false ≡ Some true = sym free ∙ out in cc no

-- a sector stays free or the download's where the lease is handed over
handed-one : (old new : Pool) (had has : Option ℕ) (k : ℕ) → IsOut old had → HandsOver had has old new
    → IsMine old had k → IsMine new has k
handed-one old new had has k out over mine =
    elim (is_lease has k) [ inl now ↦ inr now | inr other ↦ inl (free other mine) ]
  where
    free : has ≢ Some k → IsMine old had k → slice_get new.out k ≡ Some false
    free other (inl was) = over.others k (λ held. not-both old k was (out k held)) other ∙ was
    free other (inr held) = over.back k held other

pub room_handed : (old new : Pool) (had has : Option ℕ) → HasRoom old had → HandsOver had has old new → HasRoom new has
room_handed old new had has room over = record {
  out = over.mine;
  first = room.first;
  second = room.second;
  distinct = room.distinct;
  one = handed-one old new had has room.first room.out over room.one;
  two = handed-one old new had has room.second room.out over room.two;
}

-- a sector stays free or the download's where the same numbers are out
kept-one : (old new : Pool) (lease : Option ℕ) (k : ℕ) → new.out ≡ old.out → IsMine old lease k → IsMine new lease k
kept-one old new lease k same (inl free) = inl (ap (λ out. slice_get out k) same ∙ free)
kept-one old new lease k same (inr mine) = inr mine

pub out-kept : (old new : Pool) (lease : Option ℕ) → KeepsOut old new → IsOut old lease → IsOut new lease
out-kept old new lease keeps out k held = ap (λ o. slice_get o k) keeps.same ∙ out k held

pub room-kept : (old new : Pool) (lease : Option ℕ) → KeepsOut old new → HasRoom old lease → HasRoom new lease
room-kept old new lease keeps room = record {
  out = out-kept old new lease keeps room.out;
  first = room.first;
  second = room.second;
  distinct = room.distinct;
  one = kept-one old new lease room.first keeps.same room.one;
  two = kept-one old new lease room.second keeps.same room.two;
}

-- the place of a free sector, and of two
free-at : (out : List Bool) → 1 ≤ count_by not out → (k : ℕ) × (slice_get out k ≡ Some false)
free-at [] some = let no : ⊥ = omega arith in absurd no
free-at (false ∷ out) some = (0, refl)
free-at (true ∷ out) some =
    let e = sum_by-cons (λ (b : Bool). cond (not b) 1 0) true out in
    let rest = free-at out (omega (arith, e, some)) in (suc (rest.0), rest.1)

pub record TwoFree (out : List Bool) : Type 0 where
  pub first : ℕ
  pub second : ℕ
  pub distinct : first ≢ second
  pub one : slice_get out first ≡ Some false
  pub two : slice_get out second ≡ Some false

pub two-free : (out : List Bool) → 2 ≤ count_by not out → TwoFree out
two-free [] some = let no : ⊥ = omega arith in absurd no
two-free (false ∷ out) some =
    let e = sum_by-cons (λ (b : Bool). cond (not b) 1 0) false out in
    let rest = free-at out (omega (arith, e, some)) in
    record { first = 0; second = suc (rest.0); distinct = λ same. omega (arith, same); one = refl; two = rest.1 }
two-free (true ∷ out) some =
    let e = sum_by-cons (λ (b : Bool). cond (not b) 1 0) true out in
    let rest = two-free out (omega (arith, e, some)) in
    record {
      first = suc rest.first;
      second = suc rest.second;
      distinct = λ same. rest.distinct (omega (arith, same));
      one = rest.one;
      two = rest.two;
    }

-- a pool with two free sectors has room where there is no download
pub room-new : (pool : Pool) → 2 ≤ free_count pool → HasRoom pool None
room-new pool some =
    let two = two-free pool.out some in record {
      out = λ k held. cc held;
      first = two.first;
      second = two.second;
      distinct = two.distinct;
      one = inl two.one;
      two = inl two.two;
    }
