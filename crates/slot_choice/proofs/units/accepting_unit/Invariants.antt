use Rattle.std.proofs.Common.{◌≡◌, filter, find, None}
use Rattle.std.specs.List.{range_with_len}
use Rattle.part_table.specs.Families.{accepts}
use Rattle.part_table.specs.Partitions.{part_at}
use Rattle.slot_choice.specs.LoadUnits.{begins_load_unit}
use Rattle.slot_choice.proofs.units.accepting_unit.Given as goal

abbrev pub invariant-loop-i : goal.invariant-loop-i
invariant-loop-i l =
    find (λ k. accepts (part_at l.parts k) l.family)
    (filter (λ k. begins_load_unit (part_at l.parts k)) (range_with_len 0 l.i)) ≡ None
