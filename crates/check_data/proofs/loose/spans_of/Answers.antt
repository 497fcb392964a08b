use Rattle.std.proofs.Common.{arith}
use Rattle.check_data.proofs.CodeLemmas.{loop-long, spans-all, spans-more}
use Rattle.check_data.proofs.loose.spans_of.Goals as goal

pub loop-i-preserved : goal.loop-i-preserved
loop-i-preserved g c =
    let inv = c.loop-i.invariant in record {
      long = let len = c.push.ensures.len in let long = inv.long in omega (arith, len, long);
      spans = λ loop is. spans-more loop c.loop-i.i c.block_of-block.result c.at.result c.size.result
          (c.block_of-block.ensures.exact loop is) c.at.ensures.value c.size.ensures.value _ _ (inv.spans loop is)
          c.push.ensures.items;
    }

pub returns : goal.returns
returns g c = λ loop is.
    let count = c.count-i-end.ensures.value in
    let past = c.loop-i-test.false in
    let long = loop-long (g.V.View.bytes c.args.view.now) c.args.found.now c.requires.loop_ loop is in
    spans-all loop c.loop-i.i _ (omega (arith, count, past, long)) (c.loop-i.invariant.spans loop is)
