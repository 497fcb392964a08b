use Rattle.std.proofs.Common.{◌≡◌, ◌++◌, drop}
use Rattle.boot_tape.specs.Moving.{done_steps, moves_from}
use Rattle.boot_cuts.proofs.found.steps_of.Given as goal

-- the steps so far, and those of the rest, are all
abbrev pub invariant-loop-moved : goal.invariant-loop-moved
invariant-loop-moved l =
    l.steps.items ++ done_steps (moves_from (drop l.moved-index l.moves)) ≡ done_steps (moves_from l.moves)
