use Rattle.std.proofs.Common.{◌≡◌, ◌≤◌, length, map, filter}
use Rattle.std.specs.List.{range_with_len}
use Rattle.part_table.specs.Partitions.{part_at}
use Rattle.slot_choice.specs.Units.{begins_boot_unit, unit_of}
use Rattle.slot_choice.proofs.units.units_of.Given as goal

abbrev pub invariant-loop-i : goal.invariant-loop-i
invariant-loop-i l =
    (l.units.items ≡ map (unit_of l.parts)
    (filter (λ k. begins_boot_unit l.cpu (part_at l.parts k)) (range_with_len 0 l.i)))
    × (length l.units.items ≤ l.i)
