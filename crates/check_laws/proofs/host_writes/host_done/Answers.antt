use Rattle.std.proofs.Common.{ap, drop}
use Rattle.std.proofs.lemmas.List.{drop_all}
use Rattle.boot_tape.specs.Moving.{moves_from}
use Rattle.check_laws.specs.Hosting.{host_done}
use Rattle.check_laws.proofs.PassLemmas.{hosted-more, none-left}
use Rattle.check_laws.proofs.host_writes.host_done.Goals as goal

pub loop-note-preserved : goal.loop-note-preserved
loop-note-preserved c =
    hosted-more (host_done c.args.notes.now (moves_from c.args.moves.now)) c.loop-note.done.items c.add_all.new.done.items
    c.args.notes.now c.loop-note.note-index c.note-item.result c.loop-note.left.now c.first.result.now
    c.first-own.result.now c.others-left.result.now c.loop-note-test.true c.note-item.is c.first.ensures
    c.first-own.ensures c.others-left.ensures c.in_ok-add_all.ensures c.loop-note.invariant

pub returns : goal.returns
returns c =
    none-left (host_done c.args.notes.now (moves_from c.args.moves.now)) c.loop-note.done.items
    (host_done (drop c.loop-note.note-index c.args.notes.now) (moves_from c.loop-note.left.now))
    (ap (λ ns. host_done ns (moves_from c.loop-note.left.now))
    (drop_all c.loop-note.note-index c.args.notes.now c.loop-note-test.false)) c.loop-note.invariant
