-- The bits below the place are found.
use Rattle.otp_roll.proofs.DigitLemmas.{IsFound}
use Rattle.check_images.proofs.raising.lowest_clear.Given as goal

abbrev pub invariant-loop-place : goal.invariant-loop-place
invariant-loop-place l = IsFound l.number l.value l.bits l.place l.wanted
