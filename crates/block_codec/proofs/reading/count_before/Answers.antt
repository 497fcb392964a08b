use Rattle.block_codec.proofs.ReadLemmas.{count_step}
use Rattle.block_codec.proofs.reading.count_before.Goals as goal

pub loop-at-preserved : goal.loop-at-preserved
loop-at-preserved c =
    count_step c.args.words.now c.loop-at.at c.item_size-size.result c.loop-at-test.true c.if-header-eq-LAST.false
    c.item_size-size.ensures.value c.if-size-eq0.false
    c.loop-at.invariant
