use Rattle.std.proofs.Common.{◌∙◌, sym}
use Rattle.block_loop.proofs.FindLemmas.{unstarted}
use Rattle.block_loop.proofs.finding.has_start.Goals as goal

pub returns : goal.returns
returns g c = λ other. unstarted (g.V.View.bytes c.args.view.now) c.args.at _ _ c.requires.word c.read.ensures
    (sym c.is_block_start.ensures.exact ∙ other)
