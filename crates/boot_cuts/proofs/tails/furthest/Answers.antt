use Rattle.std.proofs.Common.{arith}
use Rattle.boot_cuts.proofs.TailLemmas.{further, none-further}
use Rattle.boot_cuts.proofs.tails.furthest.Goals as goal

pub loop-i-preserved : goal.loop-i-preserved
loop-i-preserved g c =
    let inv = c.loop-i.invariant in
    let more = further (g.V.View.bytes c.args.view.now) c.args.found.now c.loop-i.end c.further-end.result c.loop-i.i
    c.at.result c.size.result c.block_of-block.result c.requires.loop_ c.block_of-block.ensures.exact
    c.at.ensures.value c.size.ensures.value c.further-end.ensures inv.inside in record {
      rest = λ loop is. more.rest loop is (inv.rest loop is);
      inside = more.inside;
    }

pub returns-clause-exact : goal.returns-clause-exact
returns-clause-exact g c = λ loop is.
    let count = c.count-i-end.ensures.value in
    let past = c.loop-i-test.false in
    none-further (g.V.View.bytes c.args.view.now) c.args.found.now c.loop-i.end c.loop-i.i c.requires.loop_
    (omega (arith, count, past)) loop is (c.loop-i.invariant.rest loop is)
