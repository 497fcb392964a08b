use Rattle.std.proofs.Common.{◌≡◌, ◌≤◌, take}
use Rattle.check_images.specs.Raising.{raise_count}
use Rattle.cli_check.proofs.finding.raise_count.Given as goal

-- the raises so far, of which there are no more than steps
abbrev pub invariant-loop-step : goal.invariant-loop-step
invariant-loop-step l = record {
  counted : l.count ≡ raise_count (take l.step-index l.steps);
  few : l.count ≤ l.step-index;
}
