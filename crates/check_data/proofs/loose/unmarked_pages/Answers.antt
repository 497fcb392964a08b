use Rattle.check_data.proofs.CodeLemmas.{fill-more}
use Rattle.check_data.proofs.loose.unmarked_pages.Goals as goal

pub loop-preserved : goal.loop-preserved
loop-preserved c =
    fill-more c.loop.pages.items c.push.new.self.items c.args.count c.loop.counter c.loop-test.true
    c.in_ok-push.ensures.items
    c.loop.invariant
