use Rattle.std.proofs.Common.{◌≡◌, ℕ, suc, ◌+◌, length, slice_get, Some, subst, arith}
use Rattle.boot_map.specs.declared.maps.MapRow.{MapRow}
use Rattle.boot_map.proofs.SideLemmas.{first-begins, last-ends, next-begins, ordered, sum-side}
use Rattle.boot_map.proofs.StartLemmas.{placed, row-at}
use Rattle.boot_map.proofs.laws.windows_fill_the_flash.Goals as goal

next-at : (k : ℕ) → k + 1 ≡ suc k
next-at k = omega arith

pub returns-clause-first : goal.returns-clause-first
returns-clause-first a = λ c cpu m r is at.
    first-begins (λ (x : MapRow). x.window) (length c.flash) m.rows.items 0 r is.side_by_side at

pub returns-clause-next : goal.returns-clause-next
returns-clause-next a = λ c cpu m k r s is at next.
    next-begins (λ (x : MapRow). x.window) (length c.flash) m.rows.items 0 k r s is.side_by_side at
    (subst (λ j. slice_get m.rows.items j ≡ Some s) (next-at k) next)

pub returns-clause-order : goal.returns-clause-order
returns-clause-order a = λ c cpu m j k r s is lt one two.
    ordered (λ (x : MapRow). x.window) (length c.flash) m.rows.items 0 j k r s is.side_by_side lt one two

pub returns-clause-last : goal.returns-clause-last
returns-clause-last a = λ c cpu m k r is at last.
    last-ends (λ (x : MapRow). x.window) (length c.flash) m.rows.items 0 k r is.side_by_side at
    (subst (λ j. j ≡ length m.rows.items) (next-at k) last)

pub returns-clause-lengths : goal.returns-clause-lengths
returns-clause-lengths a = λ c cpu m is.
    plain _ (length c.flash) (sum-side (λ (x : MapRow). x.window) (length c.flash) m.rows.items 0 is.side_by_side)
  where
    plain : (x n : ℕ) → 0 + x ≡ n → x ≡ n
    plain x n e = omega arith

pub returns-clause-placed : goal.returns-clause-placed
returns-clause-placed a = λ c cpu m k r right is at.
    placed c cpu m right is r.place r.window (row-at c cpu m right is k r at).window
