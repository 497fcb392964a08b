use Rattle.std.proofs.Common.{◌≡◌, ◌<◌, ℕ, false}
use Rattle.part_table.specs.Partitions.{part_at}
use Rattle.boot_rules.specs.Data.{has_window}
use Rattle.boot_rules.proofs.data.part_with.Given as goal

abbrev pub invariant-loop-i : goal.invariant-loop-i
invariant-loop-i l = (j : ℕ) → j < l.i → has_window l.window (part_at l.parts j) ≡ false
