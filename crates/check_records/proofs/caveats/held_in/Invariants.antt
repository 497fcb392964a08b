use Rattle.std.proofs.Common.{◌≡◌, drop}
use Rattle.boot_tape.specs.Moving.{moves_from}
use Rattle.check_records.specs.Caveats.{held_from}
use Rattle.check_records.proofs.caveats.held_in.Given as goal

-- the rest decides
abbrev pub invariant-loop-number : goal.invariant-loop-number
invariant-loop-number l =
    held_from l.number (drop l.number l.notes) (moves_from l.rest) ≡ held_from 0 l.notes (moves_from l.moves)
