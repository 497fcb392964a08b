use Rattle.boot_cuts.proofs.TailLemmas.{front-exactly}
use Rattle.boot_cuts.proofs.tails.same_front.Goals as goal

pub returns : goal.returns
returns g c =
    front-exactly (g.V.View.bytes c.args.one.now) (g.W.View.bytes c.args.two.now) c.args.size c.same_range.result
    c.same_range.ensures
