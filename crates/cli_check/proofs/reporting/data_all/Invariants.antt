use Rattle.std.proofs.Common.{◌≡◌, ◌++◌, drop, length}
use Rattle.cli_check.specs.Reporting.{data_each}
use Rattle.cli_check.proofs.reporting.data_all.Given as goal

-- the windows so far, and then those of the pairs to come
abbrev pub invariant-loop-window : goal.invariant-loop-window
invariant-loop-window l =
    l.found.items
    ++ data_each (drop (length l.yielded) l.windows) (drop (length l.yielded) l.torn)
    ≡ data_each l.windows l.torn
