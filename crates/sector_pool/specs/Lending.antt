-- What a pool is once a sector that it lent for writing is no longer written.
use Rattle.std.specs.Prelude.{ℕ, List}
use Rattle.std.specs.Borrow.{Lends, MutBor, Fml, Array, u8}
use Rattle.sector_pool.specs.Pool.{Pool, pool_with_sector}
use Rattle.sector_pool.specs.contracts.pool.SectorPool.{the_row}

-- the pool ends with the last bytes of the result in sector k, and is otherwise as it was
abbrev pub LendsSector : MutBor Pool → ℕ → MutBor (List ℕ) → Fml
LendsSector pool k result = Lends the_row (Array u8 0) pool result (pool_with_sector pool.now k)
