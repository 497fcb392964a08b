-- What a block brings to a download that is kept: its steps, and what is kept afterwards.
use Rattle.std.specs.Prelude.{◌≡◌, ℕ, Bool, true, false, ◌+◌, ◌*◌, ◌<◌, ◌==◌, ◌&&◌, is_some, if◌then◌else◌, nat_eq, Option, None, Some, List, [], ◌∷◌}
use Rattle.pico_board.specs.declared.Step.{Step}
use Rattle.pico_board.specs.declared.Step.TheVariants.{Erase}
use Rattle.sector_pool.specs.Pool.{Pool}
use Rattle.sector_pool.specs.Keeping.{KeepsOutBut}
use Rattle.uf2_place.specs.declared.block.Uf2.{Uf2}
use Rattle.uf2_place.specs.declared.current.Current.{Current}
use Rattle.uf2_place.specs.declared.current.Held.{Held}
use Rattle.uf2_place.specs.Marks.{MarksView, is_marked}
use Rattle.uf2_place.specs.Downloads.{pool_sector_bytes, held_page}
use Rattle.std.specs.Set.{is_member}
use Rattle.uf2_place.specs.Placement.{numbers_of, first_in, fresh_steps, lies_in, page_in, programs_in, sector_in}

-- the sector is marked as erased, and no other mark changes
pub record MarksSector (sector : ℕ) (old new : MarksView) : Type 0 where
  pub sectors : (i : ℕ) → is_marked new.sectors i
      ≡ (if nat_eq sector i then true else is_marked old.sectors i)
  pub numbers : new.numbers ≡ old.numbers

-- page number `place` of the sector is held with these bytes, the others as before
pub record HoldsPage (place : ℕ) (page : List ℕ) (old : Held) (before : Pool) (new : Held)
    (after : Pool) : Type 0 where
  pub lease : new.lease ≡ old.lease
  pub pages : (i : ℕ) → i < 16 → held_page new.pages (pool_sector_bytes after new.lease) i
      ≡ (if nat_eq place i then Some page else held_page old.pages
      (pool_sector_bytes before old.lease) i)
  pub kept : KeepsOutBut old.lease before after

-- the block's page is held back: it lies in the first sector of a gated target
abbrev pub is_held_back : Current → Uf2 → Bool
is_held_back c b = is_some c.held && lies_in c.target.window (first_in c.target.window) b

-- the first erase of a gated target, where no block is taken yet
abbrev pub open_steps : Current → List Step
open_steps c =
    if is_some c.held && c.left == c.count then Erase (first_in c.target.window) ∷ [] else []

-- the steps of a block's own, by the sectors that are marked
abbrev pub put_steps : Current → MarksView → Uf2 → List Step
put_steps c marks b =
    if is_held_back c b then []
    else fresh_steps (is_marked marks.sectors (sector_in c.target.window b))
    (sector_in c.target.window b)
    (page_in c.target.window b) b.page

-- the programs of the held pages, when no block is to come
abbrev pub held_steps : Pool → Current → Option Held → List Step
held_steps pool c None = []
held_steps pool c (Some h) =
    if c.left == 0 then programs_in (first_in c.target.window)
    (held_page h.pages (pool_sector_bytes pool h.lease))
    else []

-- a current download with other held pages
abbrev pub with_held : Current → Option Held → Current
with_held c held = record {
  family = c.family;
  count = c.count;
  target = c.target;
  left = c.left;
  held = held;
}

-- a block that is held back: its page is held
pub record HoldsBlock (b : Uf2) (old : Current) (before : Pool) (new : Current) (after : Pool)
    : Type 0 where
  pub former : Held
  pub now : Held
  pub had : old.held ≡ Some former
  pub has : new ≡ with_held old (Some now)
  pub page : (place : ℕ) × (page_in old.target.window b ≡ 16 * first_in old.target.window + place)
      × HoldsPage place b.page former before now after

-- a block that may come next: of the family and the count of the download, and of a number that
-- none of its blocks has
pub record MayComeNext (c : Current) (blocks : List Uf2) (b : Uf2) : Type 0 where
  pub family : b.family ≡ c.family
  pub count : b.count ≡ c.count
  pub fresh : is_member nat_eq (numbers_of blocks) b.number ≡ false

-- a block's number is taken, and one block less is to come
pub record TakesNumber (b : Uf2) (old : Current) (before : MarksView) (new : Current)
    (after : MarksView) : Type 0 where
  pub left : new.left + 1 ≡ old.left
  pub rest : new
      ≡ record {
        family = old.family;
        count = old.count;
        target = old.target;
        left = new.left;
        held = old.held;
      }
  pub numbers : (i : ℕ) → is_marked after.numbers i
      ≡ (if nat_eq b.number i then true else is_marked before.numbers i)
  pub sectors : after.sectors ≡ before.sectors
