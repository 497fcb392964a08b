use Rattle.std.proofs.Common.{◌≡◌, ◌+◌, ◌/◌, Bool, List, Some, subst, arith}
use Rattle.std.specs.Prelude.{slice_get}
use Rattle.pico_board.specs.MemBoard.{state_of}
use Rattle.boot_tape.specs.Moving.{done_steps, moves_from}
use Rattle.check_data.specs.Loose.{is_loose}
use Rattle.check_data.proofs.CodeLemmas.{offsets-end, offsets-next, some-same}
use Rattle.check_data.proofs.loose.loose_by.Goals as goal

pub loop-at-preserved : goal.loop-at-preserved
loop-at-preserved c = λ loop is.
    offsets-next (is_loose (state_of c.args.board.now).content.flash (done_steps
    (moves_from c.args.moves.now)) c.args.window.start loop
    c.args.covering.now.loads.items) c.loop-at.at
    (c.args.window.start + c.args.window.len) _ _ _ _ c.loop-at-test.true
    (c.is_loose-passes.ensures (done_steps (moves_from c.args.moves.now)) loop is
    (some-same c.in_ok-pages.pages.items (c.loop-at.at / 256) _ _
    (subst (λ (xs : List Bool). slice_get xs
    (c.loop-at.at / 256) ≡ Some c.is_marked-programmed.result) c.deref.ensures.value
    c.is_marked-programmed.ensures)
    (c.in_ok-pages.ensures.each (c.loop-at.at / 256)
    (let at = c.loop-at-test.true in let inside = c.requires.inside in let size = c.flash_len.ensures in
    let whole = c.args.board.now.sizes.flash_length.whole in omega (arith, at, inside, size, whole)))))
    c.in_ok-add_if.ensures (c.loop-at.invariant loop is)

pub returns : goal.returns
returns c = λ loop is.
    offsets-end (is_loose (state_of c.args.board.now).content.flash (done_steps
    (moves_from c.args.moves.now)) c.args.window.start loop
    c.args.covering.now.loads.items) c.loop-at.at (c.args.window.start + c.args.window.len) _ _ c.loop-at-test.false
    (c.loop-at.invariant loop is)
