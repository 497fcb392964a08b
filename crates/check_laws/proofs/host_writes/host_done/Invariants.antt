use Rattle.std.proofs.Common.{◌≡◌, ◌++◌, drop}
use Rattle.boot_tape.specs.Moving.{moves_from}
use Rattle.check_laws.specs.Hosting.{host_done}
use Rattle.check_laws.proofs.host_writes.host_done.Given as goal

-- the steps so far and those of the events that are left are all
abbrev pub invariant-loop-note : goal.invariant-loop-note
invariant-loop-note l =
    l.done.items ++ host_done (drop l.note-index l.notes) (moves_from l.left)
    ≡ host_done l.fn.notes (moves_from l.fn.moves)
