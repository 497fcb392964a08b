use Rattle.std.proofs.Common.{◌≡◌, true}
use Rattle.cli_stage.specs.Images.{are_listed}
use Rattle.cli_stage.proofs.images.are_listed.Given as goal

abbrev pub invariant-loop-n : goal.invariant-loop-n
invariant-loop-n g l = are_listed (g.V.View.bytes l.view) l.found l.n ≡ true
