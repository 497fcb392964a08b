use Rattle.std.proofs.Common.{length, subst, sym}
use Rattle.pico_board.specs.MemBoard.{state_of}
use Rattle.boot_tape.specs.Moving.{AreMovesIn, moves_from}
use Rattle.check_laws.specs.Made.{laws_over, made_by, no_writes}
use Rattle.boot_tape.proofs.MovingLemmas.{rest-in}
use Rattle.check_laws.proofs.PassLemmas.{front-in, laws-more}
use Rattle.check_laws.proofs.made.laws_on.Goals as goal

pub pass-requires-clause-range : goal.pass-requires-clause-range
pass-requires-clause-range c =
    let n = length (state_of c.loop-note.board).content.flash in
    subst (λ ms. AreMovesIn n ms) (sym c.first.ensures)
    (front-in n c.note-item.result.moves c.loop-note.left.now c.loop-note.invariant.range)

pub loop-note-preserved : goal.loop-note-preserved
loop-note-preserved c =
    let inv = c.loop-note.invariant in
    let n = length (state_of c.loop-note.board).content.flash in record {
      ready = c.in_ok-laws.ensures.ready;
      free = c.in_ok-laws.ensures.free;
      range = subst (λ k. AreMovesIn k c.others-left.result.now) (sym c.in_ok-laws.ensures.size)
          (subst (λ ms. AreMovesIn n ms) (sym c.others-left.ensures)
          (rest-in n c.note-item.result.moves c.loop-note.left.now inv.range));
      rest = laws-more c.args.cpu c.loop-note.laws c.in_ok-laws.laws
          (laws_over c.args.cpu no_writes
          (made_by (state_of c.args.board.now).content c.args.notes.now (moves_from c.args.moves.now)))
          (state_of c.loop-note.board).content (state_of c.pass.new.board).content c.loop-note.note-index c.args.notes.now
          c.note-item.result c.loop-note.left.now c.first.result.now c.others-left.result.now c.loop-note-test.true
          c.note-item.is c.first.ensures c.others-left.ensures c.in_ok-laws.ensures.moved c.in_ok-laws.ensures.judged inv.rest;
    }
