use Rattle.std.proofs.Common.{◌∙◌, Some, ap, arith, sym}
use Rattle.cli_stage.proofs.ImageLemmas.{any-here, any-none}
use Rattle.cli_stage.proofs.images.is_place.Goals as goal

pub returns-then-at : goal.returns-then-at
returns-then-at c =
    sym (any-here c.args.found.now c.loop-i.i c.args.at (c.at.ensures ∙ ap Some c.if-at.true))

pub returns : goal.returns
returns c =
    let count = c.count-i-end.ensures.value in
    let end_ = c.loop-i-test.false in
    sym (any-none c.args.found.now c.args.at (λ k lt. c.loop-i.invariant k (omega (arith, lt, count, end_))))
