use Rattle.std.proofs.Common.{◌≡◌, ◌++◌, ◌≤◌, drop, length}
use Rattle.svg_sweep.specs.Runs.{runs, runs_from}
use Rattle.svg_sweep.proofs.runs.runs_of.Given as goal

abbrev pub invariant-loop-last : goal.invariant-loop-last
invariant-loop-last l = record {
  exact : l.found.items ++ runs_from l.first l.last (drop l.last l.classes) ≡ runs l.classes;
  few : length l.found.items ≤ l.last;
}
