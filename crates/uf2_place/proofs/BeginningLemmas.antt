-- A download that has no block yet.
use Rattle.std.proofs.Common.{◌≡◌, ℕ, false, is_some, Option, None, Some, List, [], arith, refl, sym}
use Rattle.std.specs.Prelude.{IfSome}
use Rattle.std.proofs.lemmas.Nat.Bits.{bit_at-zero}
use Rattle.pico_board.proofs.GateLemmas.{IsDistinct-none}
use Rattle.part_table.specs.declared.Target.{Target}
use Rattle.sector_pool.specs.Pool.{Pool}
use Rattle.sector_pool.specs.Keeping.{HandsOver}
use Rattle.uf2_place.specs.declared.current.Held.{Held}
use Rattle.uf2_place.specs.Marks.{MarksView, is_marked}
use Rattle.uf2_place.specs.Downloads.{Follows, HoldsLease, pool_sector_bytes, held_page, lease_in}
use Rattle.uf2_place.specs.Placement.{HasWholeSectors}

no-page : (pages : ℕ) (bytes : List ℕ) (i : ℕ) → pages ≡ 0 → held_page pages bytes i ≡ None
no-page pages bytes i none = rw (none, bit_at-zero i) refl

holds-none : (old pool : Pool) (t : Target) (held : Option Held) → HandsOver None (lease_in held) old pool
    → is_some held ≡ t.gated → IfSome held (λ h. h.pages ≡ 0) → HoldsLease pool t [] held
holds-none old pool t None over gated pages = sym gated
holds-none old pool t (Some h) over gated pages = record {
  gated = sym gated;
  out = over.mine h.lease refl;
  pages = λ i low. no-page h.pages (pool_sector_bytes pool h.lease) i pages;
}

pub follows-none : (old pool : Pool) (marks : MarksView) (family count : ℕ) (t : Target) (held : Option Held)
    → HandsOver None (lease_in held) old pool → is_some held ≡ t.gated → IfSome held (λ h. h.pages ≡ 0)
    → ((i : ℕ) → is_marked marks.numbers i ≡ false) → ((i : ℕ) → is_marked marks.sectors i ≡ false)
    → HasWholeSectors t.window
    → Follows pool marks (record { family = family; count = count; target = t; left = count; held = held }) []
follows-none old pool marks family count t held over gated pages numbers sectors whole = record {
  are = record { window = whole; each = tt; distinct = IsDistinct-none };
  inside = tt;
  left = omega arith;
  numbers = numbers;
  sectors = λ s other. sectors s;
  held = holds-none old pool t held over gated pages;
}
