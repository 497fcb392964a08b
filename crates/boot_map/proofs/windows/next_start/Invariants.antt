use Rattle.std.proofs.Common.{◌≡◌, drop}
use Rattle.boot_map.specs.Windows.{next_start}
use Rattle.boot_map.proofs.windows.next_start.Given as goal

abbrev pub invariant-loop-part : goal.invariant-loop-part
invariant-loop-part l =
    next_start l.at (drop l.part-index l.parts) l.least ≡ next_start l.at l.parts l.end
