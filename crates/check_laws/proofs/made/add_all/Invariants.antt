use Rattle.std.proofs.Common.{◌≡◌, ◌++◌, drop}
use Rattle.boot_tape.specs.Moving.{done_steps, moves_from}
use Rattle.check_laws.proofs.made.add_all.Given as goal

-- the steps so far and those of the other moves are all
abbrev pub invariant-loop-moved : goal.invariant-loop-moved
invariant-loop-moved l =
    l.done.items ++ done_steps (moves_from (drop l.moved-index l.moves))
    ≡ l.fn.done.items ++ done_steps (moves_from l.moves)
