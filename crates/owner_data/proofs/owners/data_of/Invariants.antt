use Rattle.std.proofs.Common.{◌≡◌, filter, map}
use Rattle.std.specs.List.{range_with_len}
use Rattle.part_table.specs.Partitions.{part_at}
use Rattle.owner_data.specs.Owners.{is_owned_by, taken_part}
use Rattle.owner_data.proofs.owners.data_of.Given as goal

abbrev pub invariant-loop-i : goal.invariant-loop-i
invariant-loop-i l =
    l.data.items
    ≡ map (taken_part l.parts l.second) (filter (λ k. is_owned_by l.owner (part_at l.parts k)) (range_with_len 0 l.i))
