use Rattle.std.proofs.Common.{◌≡◌, ◌++◌}
use Rattle.std.specs.List.{filter_map, range_with_len}
use Rattle.boot_caveats.specs.PartCaveats.{no_read}
use Rattle.boot_caveats.proofs.parts.add_each_read.Given as goal

abbrev pub invariant-loop-i : goal.invariant-loop-i
invariant-loop-i l =
    l.list.items ≡ l.initial.list.items ++ filter_map (no_read l.decision l.parts) (range_with_len 0 l.i)
