use Rattle.std.proofs.Common.{drop}
use Rattle.std.proofs.lemmas.List.{drop_all}
use Rattle.boot_tape.specs.Doers.{doers}
use Rattle.boot_tape.proofs.DoerLemmas.{doers-end, doers-more}
use Rattle.boot_tape.proofs.notes.doers_of.Goals as goal

pub loop-note-preserved : goal.loop-note-preserved
loop-note-preserved c =
    doers-more (doers c.args.notes.now) c.loop-note.found.items c.add_note.new.doers.items c.loop-note.note-index _
    c.args.notes.now c.loop-note-test.true c.note-item.is c.in_ok-add_note.ensures c.loop-note.invariant

pub returns : goal.returns
returns c =
    doers-end (doers c.args.notes.now) c.loop-note.found.items (drop c.loop-note.note-index c.args.notes.now)
    (drop_all c.loop-note.note-index c.args.notes.now c.loop-note-test.false) c.loop-note.invariant
