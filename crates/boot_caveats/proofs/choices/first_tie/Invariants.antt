use Rattle.std.proofs.Common.{◌≡◌, drop}
use Rattle.boot_caveats.specs.ChoiceCaveats.{first_tie}
use Rattle.boot_caveats.proofs.choices.first_tie.Given as goal

abbrev pub invariant-loop-look : goal.invariant-loop-look
invariant-loop-look l = first_tie l.looks ≡ first_tie (drop l.look-index l.looks)
