use Rattle.std.proofs.Common.{◌∙◌, ◌+◌, ap, drop, get_or, sym}
use Rattle.std.specs.Prelude.{◌||◌}
use Rattle.boot_tape.specs.Moving.{move_from, moves_from}
use Rattle.check_images.specs.Written.{has_written, writes_here}
use Rattle.check_images.proofs.WriterLemmas.{has-next, no_move}
use Rattle.check_images.proofs.written.has_written.Goals as goal

pub returns-then-writes_here : goal.returns-then-writes_here
returns-then-writes_here c =
    let rest = has_written c.args.window c.args.by (moves_from (drop (c.loop-place.place + 1) c.args.moves.now))
    (drop (c.loop-place.place + 1) c.args.doers.now) in
    sym (sym c.loop-place.invariant
    ∙ (has-next c.args.window c.args.by c.args.moves.now c.args.doers.now c.loop-place.place no_move
    c.loop-place-test.true
    ∙ ap (λ b. b || rest)
    (sym (c.writes_here.ensures
    ∙ ap (writes_here c.args.window c.args.by (move_from (get_or c.args.moves.now c.loop-place.place no_move)))
    c.doer_at.ensures)
    ∙ c.if-writes_here.true)))

pub loop-place-preserved : goal.loop-place-preserved
loop-place-preserved c =
    let rest = has_written c.args.window c.args.by (moves_from (drop (c.loop-place.place + 1) c.args.moves.now))
    (drop (c.loop-place.place + 1) c.args.doers.now) in
    sym (has-next c.args.window c.args.by c.args.moves.now c.args.doers.now c.loop-place.place no_move
    c.loop-place-test.true
    ∙ ap (λ b. b || rest)
    (sym (c.writes_here.ensures
    ∙ ap (writes_here c.args.window c.args.by (move_from (get_or c.args.moves.now c.loop-place.place no_move)))
    c.doer_at.ensures)
    ∙ c.if-writes_here.false))
    ∙ c.loop-place.invariant
