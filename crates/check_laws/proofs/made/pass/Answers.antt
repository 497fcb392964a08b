use Rattle.std.proofs.Common.{◌∙◌, ap, length, subst, sym}
use Rattle.pico_board.specs.MemBoard.{state_of}
use Rattle.boot_tape.specs.Moving.{AreMovesIn, after_moves, done_steps, moves_from}
use Rattle.boot_tape.proofs.MovingLemmas.{rest-in}
use Rattle.check_laws.proofs.PassLemmas.{both-moved, front-in, judged-as}
use Rattle.check_laws.proofs.made.pass.Goals as goal

pub do_moves-requires-clause-range : goal.do_moves-requires-clause-range
do_moves-requires-clause-range c =
    subst (λ ms. AreMovesIn (length (state_of c.args.board.now).content.flash) ms) (sym c.first.ensures)
    (front-in (length (state_of c.args.board.now).content.flash) c.args.note.now.own c.args.moves.now c.requires.range)

pub do_moves-requires-2-clause-range : goal.do_moves-requires-2-clause-range
do_moves-requires-2-clause-range c =
    let n = length (state_of c.args.board.now).content.flash in
    subst (λ k. AreMovesIn k c.others-behind.result.now) (sym c.do_moves.ensures.size)
    (subst (λ ms. AreMovesIn n ms) (sym c.others-behind.ensures)
    (rest-in n c.args.note.now.own c.args.moves.now c.requires.range))

pub returns-clause-moved : goal.returns-clause-moved
returns-clause-moved c =
    let before = (state_of c.args.board.now).content in
    let mid = (state_of c.do_moves.new.board).content in
    both-moved before mid (state_of c.do_moves-2.new.board).content c.args.note.now.own c.args.moves.now
    (c.do_moves.ensures.moved ∙ ap (λ ms. after_moves before (moves_from ms)) c.first.ensures)
    (c.do_moves-2.ensures.moved ∙ ap (λ ms. after_moves mid (moves_from ms)) c.others-behind.ensures)

pub returns-clause-judged : goal.returns-clause-judged
returns-clause-judged c =
    let before = (state_of c.args.board.now).content in
    judged-as c.args.cpu c.args.laws c.laws_with-found.result before (state_of c.do_moves.new.board).content
    c.args.note.now c.args.moves.now c.deref.result.now
    (c.do_moves.ensures.moved ∙ ap (λ ms. after_moves before (moves_from ms)) c.first.ensures)
    (c.deref.ensures.value ∙ (c.in_ok-done.ensures ∙ ap (λ ms. done_steps (moves_from ms)) c.others-behind.ensures))
    c.laws_with-found.ensures.exact
