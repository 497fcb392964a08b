use Rattle.std.proofs.Common.{◌-◌, ◌++◌, replicate, arith}
use Rattle.boot_tape.proofs.DoerLemmas.{add-end, add-more}
use Rattle.boot_tape.proofs.notes.add_moves.Goals as goal

pub loop-preserved : goal.loop-preserved
loop-preserved c =
    add-more (c.args.doers.now.items ++ replicate c.args.count c.args.doer) c.loop.doers.items c.push.new.self.items
    c.args.doer c.args.count c.loop.counter c.loop-test.true c.in_ok-push.ensures.items c.loop.invariant

pub returns : goal.returns
returns c =
    add-end (c.args.doers.now.items ++ replicate c.args.count c.args.doer) c.loop.doers.items c.args.doer
    (c.args.count - c.loop.counter) (let over = c.loop-test.false in omega (arith, over)) c.loop.invariant
