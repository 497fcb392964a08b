use Rattle.std.proofs.Common.{rules, arith}
use Rattle.boot_caveats.proofs.ProcessorLemmas.{others-all, others-more}
use Rattle.boot_caveats.proofs.processors.other_windows.Goals as goal

pub loop-look-preserved : goal.loop-look-preserved
loop-look-preserved g c =
    let content = (g.B.Board.state c.args.board.now).content in
    record {
      kept = search rules;
      knows = search rules;
      rest = others-more content c.args.cpu c.args.looks.now c.loop-look.look-index c.look-item.result
          c.loop-look.member c.loop-look.windows.items c.push_others.new.windows.items _ c.loop-look-test.true
          c.look-item.is c.loop-look.invariant.rest c.push_others.ensures.value;
      most = omega (arith, c.push_others.ensures.most, c.loop-look.invariant.most);
    }

pub returns-clause-value : goal.returns-clause-value
returns-clause-value g c =
    others-all (g.B.Board.state c.args.board.now).content c.args.cpu c.args.looks.now c.loop-look.look-index
    c.loop-look.member c.loop-look.windows.items _ c.loop-look-test.false c.loop-look.invariant.rest
