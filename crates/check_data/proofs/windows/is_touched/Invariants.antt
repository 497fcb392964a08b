use Rattle.std.proofs.Common.{◌≡◌, drop}
use Rattle.std.specs.List.{list_any}
use Rattle.boot_tape.specs.Moving.{done_steps, moves_from}
use Rattle.check_images.specs.Touching.{touches}
use Rattle.check_data.proofs.windows.is_touched.Given as goal

-- the rest decides
abbrev pub invariant-loop-moved : goal.invariant-loop-moved
invariant-loop-moved l =
    list_any (touches l.window) (done_steps (moves_from (drop l.moved-index l.moves)))
    ≡ list_any (touches l.window) (done_steps (moves_from l.moves))
