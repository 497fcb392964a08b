use Rattle.std.proofs.Common.{◌∙◌, ◌+◌, ap, drop, refl, sym}
use Rattle.std.specs.Prelude.{◌||◌}
use Rattle.boot_tape.specs.Moving.{moves_from}
use Rattle.check_laws.specs.Hosting.{host_writes}
use Rattle.check_laws.proofs.PassLemmas.{host-more}
use Rattle.check_laws.proofs.host_writes.host_writes.Goals as goal

pub returns-then-do_step : goal.returns-then-do_step
returns-then-do_step c =
    let rest = drop c.note-item.result.moves c.loop-note.left.now in
    sym (sym c.loop-note.invariant
    ∙ (host-more c.args.notes.now c.loop-note.note-index c.note-item.result c.loop-note.left.now c.first.result.now
    c.first-in-loop-note.result.now rest c.loop-note-test.true c.note-item.is c.first.ensures c.first-in-loop-note.ensures
    refl c.do_step.result c.do_step.ensures
    ∙ ap (λ b. b || host_writes (drop (c.loop-note.note-index + 1) c.args.notes.now) (moves_from rest)) c.if-do_step.true))

pub loop-note-preserved : goal.loop-note-preserved
loop-note-preserved c =
    sym (host-more c.args.notes.now c.loop-note.note-index c.note-item.result c.loop-note.left.now c.first.result.now
    c.first-in-loop-note.result.now c.others-left.result.now c.loop-note-test.true c.note-item.is c.first.ensures
    c.first-in-loop-note.ensures c.others-left.ensures c.do_step.result c.do_step.ensures
    ∙ ap (λ b. b || host_writes (drop (c.loop-note.note-index + 1) c.args.notes.now) (moves_from c.others-left.result.now))
    c.if-do_step.false)
    ∙ c.loop-note.invariant
