-- What a call that borrows from a pool leaves as it was.
use Rattle.std.specs.Prelude.{◌≡◌, ◌≢◌, ℕ, true, false, Option, Some, slice_get}
use Rattle.sector_pool.specs.Pool.{Pool}

-- the numbers out are the same, and every sector that was out keeps its bytes
pub record KeepsOut (old new : Pool) : Type 0 where
  pub same : new.out ≡ old.out
  pub kept : (j : ℕ) → slice_get old.out j ≡ Some true
      → slice_get new.sectors j ≡ slice_get old.sectors j

-- the numbers out are the same, and every sector that was out keeps its bytes, but for sector k
pub record KeepsOutBut (k : ℕ) (old new : Pool) : Type 0 where
  pub same : new.out ≡ old.out
  pub kept : (j : ℕ) → j ≢ k → slice_get old.out j ≡ Some true
      → slice_get new.sectors j ≡ slice_get old.sectors j

-- the caller had one lease or none, and now has another one, the same one or none: the lease that
-- it has is out, and was free before where it is another one; a lease that it has no more is free;
-- every other number is as it was, and where it is out, its sector keeps its bytes
pub record HandsOver (had has : Option ℕ) (old new : Pool) : Type 0 where
  pub mine : (k : ℕ) → has ≡ Some k → slice_get new.out k ≡ Some true
  pub fresh : (k : ℕ) → has ≡ Some k → had ≢ Some k → slice_get old.out k ≡ Some false
  pub back : (k : ℕ) → had ≡ Some k → has ≢ Some k → slice_get new.out k ≡ Some false
  pub others : (j : ℕ) → had ≢ Some j → has ≢ Some j → slice_get new.out j ≡ slice_get old.out j
  pub kept : (j : ℕ) → had ≢ Some j → has ≢ Some j → slice_get old.out j ≡ Some true
      → slice_get new.sectors j ≡ slice_get old.sectors j
