use Rattle.std.proofs.Common.{◌≡◌, ◌++◌, drop}
use Rattle.boot_tape.specs.Moving.{moves_from}
use Rattle.boot_cuts.specs.Tears.{left_torn}
use Rattle.boot_cuts.proofs.tears.left_torn.Given as goal

-- the steps so far, and those of the rest, are all
abbrev pub invariant-loop-place : goal.invariant-loop-place
invariant-loop-place l =
    l.torn.items ++ left_torn (moves_from (drop l.place l.moves)) ≡ left_torn (moves_from l.moves)
