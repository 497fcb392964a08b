use Rattle.std.proofs.Common.{◌≡◌, drop}
use Rattle.boot_tape.specs.Moving.{moves_from}
use Rattle.check_laws.specs.Hosting.{host_writes}
use Rattle.check_laws.proofs.host_writes.host_writes.Given as goal

-- what is told of the events that are left is told of all
abbrev pub invariant-loop-note : goal.invariant-loop-note
invariant-loop-note l =
    host_writes (drop l.note-index l.notes) (moves_from l.left) ≡ host_writes l.fn.notes (moves_from l.fn.moves)
