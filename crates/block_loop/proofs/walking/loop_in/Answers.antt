use Rattle.std.proofs.Common.{ap, sym}
use Rattle.block_loop.specs.Offsets.{loop_offsets}
use Rattle.block_loop.proofs.FollowLemmas.{loop_of-none}
use Rattle.block_loop.proofs.walking.loop_in.Goals as goal

pub returns-in-None : goal.returns-in-None
returns-in-None g c = sym (ap loop_offsets
    (loop_of-none (g.V.View.bytes c.args.view.now) (sym c.in-None.ensures.exact)))
