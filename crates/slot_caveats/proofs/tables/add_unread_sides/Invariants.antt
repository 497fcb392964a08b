use Rattle.std.proofs.Common.{◌≡◌, ◌++◌}
use Rattle.std.specs.List.{filter_map, range_with_len}
use Rattle.slot_caveats.specs.TableCaveats.{unread_side}
use Rattle.slot_caveats.proofs.tables.add_unread_sides.Given as goal

abbrev pub invariant-loop-i : goal.invariant-loop-i
invariant-loop-i l =
    l.list.items ≡ l.initial.list.items ++ filter_map (unread_side l.parts) (range_with_len 0 l.i)
