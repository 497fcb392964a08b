-- The sector pool as contracts see it.
use Rattle.std.specs.Prelude.{◌≡◌, ℕ, ◌<◌, Bool, not, true, false, List, length, All, slice_set, count_by, replicate}

-- for each number whether it is out, and for each number the bytes of its sector
pub record Pool : Type 0 where
  pub out : List Bool
  pub sectors : List (List ℕ)

-- the pool has n sectors of 4096 bytes each, and none is out
pub record IsNewPool (n : ℕ) (pool : Pool) : Type 0 where
  pub numbers : length pool.out ≡ n
  pub sectors : length pool.sectors ≡ n
  pub free : All (λ is_out. is_out ≡ false) pool.out
  pub whole : All (λ bytes. length bytes ≡ 4096) pool.sectors

-- how many numbers are not out
abbrev pub free_count : Pool → ℕ
free_count pool = count_by not pool.out

-- some sector is not out
abbrev pub HasFree : Pool → Type 0
HasFree pool = 0 < free_count pool

-- the bytes of a sector as it is lent: 4096 of them, each 0xff
unfoldable pub erased : List ℕ
erased = replicate 4096 255

-- the pool with number k out, and that sector's bytes all 0xff
abbrev pub leased : Pool → ℕ → Pool
leased pool k = record {
  out = slice_set pool.out k true;
  sectors = slice_set pool.sectors k erased;
}

-- the pool with these bytes in sector k
abbrev pub pool_with_sector : Pool → ℕ → List ℕ → Pool
pool_with_sector pool k bytes = record { out = pool.out; sectors = slice_set pool.sectors k bytes }

-- the pool with number k free
abbrev pub returned : Pool → ℕ → Pool
returned pool k = record { out = slice_set pool.out k false; sectors = pool.sectors }
