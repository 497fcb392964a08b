use Rattle.std.proofs.Common.{◌≡◌, ◌<◌, ℕ, false}
use Rattle.part_table.specs.Partitions.{part_at}
use Rattle.part_table.specs.Windows.{shares_sector}
use Rattle.part_table.proofs.faults.first_shared.Given as goal

abbrev pub invariant-loop-k : goal.invariant-loop-k
invariant-loop-k l = (j : ℕ) → j < l.k → shares_sector l.part (part_at l.parts j) ≡ false
