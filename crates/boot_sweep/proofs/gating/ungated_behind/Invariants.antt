use Rattle.std.proofs.Common.{◌≡◌, ◌+◌, [], drop}
use Rattle.boot_sweep.specs.Gating.{ArePages}
use Rattle.boot_sweep.specs.Refusals.{ungated_behind}
use Rattle.boot_sweep.proofs.gating.ungated_behind.Given as goal

-- the first of the rest, behind the pages so far, is that of all
abbrev pub invariant-loop-i : goal.invariant-loop-i
invariant-loop-i l = record {
  pages : ArePages l.sector l.pages.items;
  rest : ungated_behind l.sector l.pages.items (l.i + 1) (drop l.i l.steps) ≡ ungated_behind l.sector [] 1 l.steps;
}
