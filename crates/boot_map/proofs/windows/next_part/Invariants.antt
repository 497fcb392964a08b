use Rattle.std.proofs.Common.{◌≡◌, ◌<◌, ℕ, false}
use Rattle.part_table.specs.Partitions.{part_at}
use Rattle.boot_map.specs.Windows.{starts_at}
use Rattle.boot_map.proofs.windows.next_part.Given as goal

abbrev pub invariant-loop-i : goal.invariant-loop-i
invariant-loop-i l = (j : ℕ) → j < l.i → starts_at l.next (part_at l.parts j) ≡ false
