use Rattle.std.proofs.Common.{◌≡◌, drop}
use Rattle.boot_tape.specs.Moving.{moves_from}
use Rattle.check_images.specs.Written.{has_written}
use Rattle.check_images.proofs.written.has_written.Given as goal

-- the rest decides
abbrev pub invariant-loop-place : goal.invariant-loop-place
invariant-loop-place l =
    has_written l.window l.by (moves_from (drop l.place l.moves)) (drop l.place l.doers)
    ≡ has_written l.window l.by (moves_from l.moves) l.doers
