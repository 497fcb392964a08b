use Rattle.std.proofs.Common.{◌≡◌, map, take}
use Rattle.svg_sweep.specs.Charts.{class_of_step}
use Rattle.svg_sweep.proofs.kinds.kinds_of.Given as goal

abbrev pub invariant-loop-step : goal.invariant-loop-step
invariant-loop-step l = l.kinds.items ≡ map class_of_step (take l.step-index l.steps)
