use Rattle.std.proofs.Common.{◌≡◌, ◌≤◌, take}
use Rattle.svg_sweep.specs.Runs.{class_count}
use Rattle.svg_sweep.proofs.runs.class_count.Given as goal

abbrev pub invariant-loop-other : goal.invariant-loop-other
invariant-loop-other l = record {
  exact : l.count ≡ class_count l.class (take l.other-index l.classes);
  most : l.count ≤ l.other-index;
}
