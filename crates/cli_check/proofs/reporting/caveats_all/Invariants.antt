use Rattle.std.proofs.Common.{◌≡◌, take, map}
use Rattle.cli_check.specs.Reporting.{caveat_found}
use Rattle.cli_check.proofs.reporting.caveats_all.Given as goal

abbrev pub invariant-loop-one : goal.invariant-loop-one
invariant-loop-one l = l.found.items ≡ map caveat_found (take l.one-index l.seen)
