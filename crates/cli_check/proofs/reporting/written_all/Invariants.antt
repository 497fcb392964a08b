use Rattle.std.proofs.Common.{◌≡◌, take, map}
use Rattle.cli_check.specs.Reporting.{written_found}
use Rattle.cli_check.proofs.reporting.written_all.Given as goal

abbrev pub invariant-loop-window : goal.invariant-loop-window
invariant-loop-window l = l.found.items ≡ map written_found (take l.window-index l.written)
