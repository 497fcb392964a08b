use Rattle.std.proofs.Common.{◌≡◌, ◌++◌}
use Rattle.std.specs.List.{filter_map, range_with_len}
use Rattle.boot_caveats.specs.PartCaveats.{ignore_flags}
use Rattle.boot_caveats.proofs.parts.add_each_ignore.Given as goal

abbrev pub invariant-loop-i : goal.invariant-loop-i
invariant-loop-i l =
    l.list.items ≡ l.initial.list.items ++ filter_map (ignore_flags l.parts) (range_with_len 0 l.i)
