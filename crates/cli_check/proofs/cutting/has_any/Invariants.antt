use Rattle.std.proofs.Common.{◌≡◌, drop}
use Rattle.cli_check.specs.CutsWorks.{has_any, run_answers}
use Rattle.cli_check.proofs.cutting.has_any.Given as goal

-- the rest decides
abbrev pub invariant-loop-run : goal.invariant-loop-run
invariant-loop-run l = has_any l.class (run_answers (drop l.run-index l.runs)) ≡ has_any l.class (run_answers l.runs)
