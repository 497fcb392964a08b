use Rattle.std.proofs.Common.{◌≡◌, ◌++◌, drop}
use Rattle.boot_tape.specs.Doers.{doers}
use Rattle.boot_tape.proofs.notes.doers_of.Given as goal

-- the moves of the notes so far and those of the others are all
abbrev pub invariant-loop-note : goal.invariant-loop-note
invariant-loop-note l = l.found.items ++ doers (drop l.note-index l.notes) ≡ doers l.notes
