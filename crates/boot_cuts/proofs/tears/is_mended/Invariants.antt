use Rattle.std.proofs.Common.{◌≡◌, drop}
use Rattle.std.specs.List.{list_any}
use Rattle.boot_tape.specs.Moving.{done_steps, moves_from}
use Rattle.boot_cuts.specs.Tears.{mends}
use Rattle.boot_cuts.proofs.tears.is_mended.Given as goal

-- the rest decides
abbrev pub invariant-loop-moved : goal.invariant-loop-moved
invariant-loop-moved l =
    list_any (mends l.torn) (done_steps (moves_from (drop l.moved-index l.moves)))
    ≡ list_any (mends l.torn) (done_steps (moves_from l.moves))
