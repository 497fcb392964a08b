use Rattle.std.proofs.Common.{◌≡◌, ◌<◌, ℕ, false}
use Rattle.part_table.specs.Links.{is_second_of}
use Rattle.part_table.specs.Partitions.{part_at}
use Rattle.slot_choice.proofs.units.second_of.Given as goal

abbrev pub invariant-loop-i : goal.invariant-loop-i
invariant-loop-i l = (j : ℕ) → j < l.i → is_second_of l.first (part_at l.parts j) ≡ false
