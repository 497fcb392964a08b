use Rattle.std.proofs.Common.{◌≡◌, map, take}
use Rattle.cli_sweep.specs.ChartWorks.{before_class}
use Rattle.cli_sweep.proofs.results.before_classes.Given as goal

abbrev pub invariant-loop-cut : goal.invariant-loop-cut
invariant-loop-cut l = l.classes.items ≡ map before_class (take l.cut-index l.cuts)
