use Rattle.std.proofs.Common.{◌≡◌, ◌+◌, ◌-◌}
use Rattle.std.specs.List.{list_any, range_with_len}
use Rattle.load_map.specs.Loads.{entry_count}
use Rattle.boot_caveats.specs.MemberCaveats.{has_moving_entry, is_moving}
use Rattle.boot_caveats.proofs.members.has_moving_entry.Given as goal

abbrev pub invariant-loop-i : goal.invariant-loop-i
invariant-loop-i l =
    has_moving_entry l.block l.item
    ≡ list_any (is_moving l.block l.item) (range_with_len (0 + l.i) (entry_count l.item - l.i))
