use Rattle.std.proofs.Common.{◌∙◌, ap, length, subst, sym}
use Rattle.std.proofs.lemmas.List.{drop_all}
use Rattle.pico_board.specs.MemBoard.{state_of}
use Rattle.boot_tape.specs.Moving.{AreMovesIn, after_moves, moves_from}
use Rattle.boot_tape.proofs.MovingLemmas.{done-more, move-in}
use Rattle.boot_tape.proofs.moving.do_moves.Goals as goal

pub do_move-requires-clause-range : goal.do_move-requires-clause-range
do_move-requires-clause-range c =
    move-in (length (state_of c.loop-moved.board).content.flash) c.loop-moved.moved-index c.args.moves.now _
    c.loop-moved-test.true (subst (λ n. AreMovesIn n c.args.moves.now) (sym c.loop-moved.invariant.size) c.requires.range)

pub loop-moved-preserved : goal.loop-moved-preserved
loop-moved-preserved c = record {
  ready = c.do_move.ensures.ready;
  size = c.do_move.ensures.size ∙ c.loop-moved.invariant.size;
  rest = done-more (state_of c.loop-moved.board).content (state_of c.do_move.new.board).content
      (after_moves (state_of c.args.board.now).content (moves_from c.args.moves.now)) c.loop-moved.moved-index
      c.args.moves.now _ c.loop-moved-test.true c.do_move.ensures.moved
      c.loop-moved.invariant.rest;
}

pub returns-clause-moved : goal.returns-clause-moved
returns-clause-moved c =
    ap (λ ms. after_moves (state_of c.loop-moved.board).content (moves_from ms))
    (sym (drop_all c.loop-moved.moved-index c.args.moves.now c.loop-moved-test.false))
    ∙ c.loop-moved.invariant.rest
