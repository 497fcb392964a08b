use Rattle.std.proofs.Common.{◌≡◌, drop}
use Rattle.image_check.specs.Digests.{remembered}
use Rattle.image_check.proofs.digests.remembered.Given as goal

abbrev pub invariant-loop-entry : goal.invariant-loop-entry
invariant-loop-entry l =
    remembered l.window l.cpu (drop l.entry-index l.entries) ≡ remembered l.window l.cpu l.entries
