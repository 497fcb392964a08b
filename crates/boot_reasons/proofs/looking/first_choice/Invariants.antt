use Rattle.std.proofs.Common.{◌≡◌, drop}
use Rattle.boot_reasons.specs.Looks.{first_choice}
use Rattle.boot_reasons.proofs.looking.first_choice.Given as goal

abbrev pub invariant-loop-look : goal.invariant-loop-look
invariant-loop-look l = first_choice (drop l.look-index l.looks) ≡ first_choice l.looks
