use Rattle.std.proofs.Common.{◌∙◌, ap, Some}
use Rattle.check_data.proofs.CodeLemmas.{marks-end, marks-more}
use Rattle.check_data.proofs.loose.mark_moves.Goals as goal

pub loop-moved-preserved : goal.loop-moved-preserved
loop-moved-preserved c = λ p b at.
    let inv = c.loop-moved.invariant p b at in (
      _,
      c.mark_move.ensures p inv.0 inv.1,
      marks-more p c.args.moves.now c.loop-moved.moved-index _
          c.loop-moved-test.true inv.0 _ inv.2,
    )

pub returns : goal.returns
returns c = λ p b at.
    let inv = c.loop-moved.invariant p b at in
    inv.1 ∙ ap (λ v. Some v)
    (marks-end p c.args.moves.now c.loop-moved.moved-index c.loop-moved-test.false inv.0 _ inv.2)
