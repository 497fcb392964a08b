use Rattle.std.proofs.Common.{◌≡◌, ◌-◌, ◌++◌, replicate}
use Rattle.boot_tape.proofs.notes.add_moves.Given as goal

-- the moves so far and the others are all
abbrev pub invariant-loop : goal.invariant-loop
invariant-loop l =
    l.doers.items ++ replicate (l.count - l.counter) l.doer ≡ l.fn.doers.items ++ replicate l.count l.doer
