use Rattle.std.proofs.Common.{◌≡◌}
use Rattle.boot_caveats.specs.StartCaveats.{is_filled_from}
use Rattle.boot_caveats.proofs.starts.is_filled.Given as goal

abbrev pub invariant-loop-place : goal.invariant-loop-place
invariant-loop-place l = is_filled_from l.value 0 ≡ is_filled_from l.value l.place
