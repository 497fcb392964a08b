use Rattle.std.proofs.Common.{arith}
use Rattle.block_codec.proofs.ItemLemmas.{StepsOver-at, counted-more}
use Rattle.block_codec.proofs.items.count_in.Goals as goal

pub loop-at-preserved : goal.loop-at-preserved
loop-at-preserved c =
    let ws = c.args.items.now in
    let step = StepsOver-at ws c.loop-at.at c.item_size-at.result c.loop-at-test.true c.loop-at.invariant.whole
    c.item_size-at.ensures.value in
    let some = step.some in
    record {
      whole = step.rest;
      inside = step.inside;
      few = omega arith;
      counted = counted-more ws c.loop-at.at c.item_size-at.result c.loop-at.count _ step c.loop-at.invariant.counted;
    }
