use Rattle.std.proofs.Common.{◌≡◌, ◌++◌, ◌≤◌, drop, length}
use Rattle.svg_sweep.specs.Runs.{chance_runs}
use Rattle.svg_sweep.proofs.runs.chance_runs.Given as goal

abbrev pub invariant-loop-run : goal.invariant-loop-run
invariant-loop-run l = record {
  exact : l.found.items ++ chance_runs (drop l.run-index l.runs) ≡ chance_runs l.runs;
  few : length l.found.items ≤ l.run-index;
}
