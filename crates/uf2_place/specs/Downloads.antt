-- What a download keeps of its blocks, and which list of blocks it stands for.
use Rattle.std.specs.Prelude.{◌≡◌, ◌≢◌, ℕ, true, false, ◌+◌, ◌*◌, ◌<◌, ◌≤◌, ◌==◌, if◌then◌else◌, nat_eq, Option, None, Some, List, [], length, slice_get, slice_index_or, slice_range}
use Rattle.std.specs.Int.{bit_at}
use Rattle.std.specs.List.{AllByRecursion, list_any}
use Rattle.std.specs.Option.{option_map}
use Rattle.std.specs.Set.{is_member}
use Rattle.sector_pool.specs.Pool.{Pool}
use Rattle.part_table.specs.declared.Target.{Target}
use Rattle.uf2_place.specs.declared.block.Uf2.{Uf2}
use Rattle.uf2_place.specs.declared.current.Current.{Current}
use Rattle.uf2_place.specs.declared.current.Held.{Held}
use Rattle.uf2_place.specs.Marks.{MarksView, is_marked}
use Rattle.uf2_place.specs.Placement.{AreBlocks, HasWholeSectors, IsPageInside, first_in, last_for, lies_in, numbers_of}

-- the window of a target has whole sectors, at least one, and lies inside a flash of this length
pub record IsTargetIn (flash_len : ℕ) (t : Target) : Type 0 where
  pub whole : HasWholeSectors t.window
  pub inside : t.window.start + t.window.len ≤ flash_len

-- the lease that a download holds, where it holds one
abbrev pub lease_in : Option Held → Option ℕ
lease_in held = option_map (λ h. h.lease) held

abbrev pub lease_of : Option Current → Option ℕ
lease_of None = None
lease_of (Some c) = lease_in c.held

-- a held lease is out in this pool
abbrev pub IsOut : Pool → Option ℕ → Type 0
IsOut pool lease = (k : ℕ) → lease ≡ Some k → slice_get pool.out k ≡ Some true

-- the bytes of a sector of the pool
abbrev pub pool_sector_bytes : Pool → ℕ → List ℕ
pool_sector_bytes pool k = slice_index_or pool.sectors k []

-- page i of a sector's bytes, where bit i of the held pages is set
abbrev pub held_page : ℕ → List ℕ → ℕ → Option (List ℕ)
held_page pages bytes i =
    if bit_at pages i == 1 then Some (slice_range bytes (256 * i) (256 * i + 256)) else None

-- the pages of the first sector that some block names stand in the bytes of a lease that is out;
-- each page is as the last block for it has it; no other pages are held
pub record HoldsPages (pool : Pool) (t : Target) (blocks : List Uf2) (h : Held) : Type 0 where
  pub gated : t.gated ≡ true
  pub out : slice_get pool.out h.lease ≡ Some true
  pub pages : (i : ℕ) → i < 16
      → held_page h.pages (pool_sector_bytes pool h.lease) i
      ≡ last_for t.window (16 * first_in t.window + i) blocks

-- a gated target has its held pages in a lease, and another target holds none
abbrev pub HoldsLease : Pool → Target → List Uf2 → Option Held → Type 0
HoldsLease pool t blocks None = t.gated ≡ false
HoldsLease pool t blocks (Some h) = HoldsPages pool t blocks h

-- what is kept of a download is what these blocks make of it; there may be no block yet: the
-- download's family, count and target are those of the blocks; its taken numbers are the list's
-- numbers; its erased sectors are the list's sectors, but for the first one of a gated target; and
-- the held pages of a gated target stand in its lease's bytes
pub record Follows (pool : Pool) (marks : MarksView) (c : Current)
    (blocks : List Uf2) : Type 0 where
  pub are : AreBlocks c.target c.family c.count blocks
  pub inside : AllByRecursion (IsPageInside c.target.window) blocks
  pub left : length blocks + c.left ≡ c.count
  pub numbers : (i : ℕ) → is_marked marks.numbers i ≡ is_member nat_eq (numbers_of blocks) i
  pub sectors : (s : ℕ) → (c.target.gated ≡ true → s ≢ first_in c.target.window)
      → is_marked marks.sectors s ≡ list_any (lies_in c.target.window s) blocks
  pub held : HoldsLease pool c.target blocks c.held
