use Rattle.std.proofs.Common.{◌≤◌, ◌+◌, length, arith}
use Rattle.block_codec.proofs.WriteLemmas.{checked-more}
use Rattle.block_codec.proofs.writing.first_bad.Goals as goal

pub loop-at-preserved : goal.loop-at-preserved
loop-at-preserved c =
    let room : c.loop-at.at + c.item_size-size.result ≤ length c.args.items.now = omega arith in
    record {
      whole = checked-more c.args.items.now c.loop-at.at c.item_size-size.result c.loop-at-test.true
          c.if-header-eq-LAST.false c.item_size-size.ensures.value c.if-size-eq0.false
          room c.loop-at.invariant.whole;
      inside = room;
    }
