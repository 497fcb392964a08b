use Rattle.std.proofs.Common.{◌∙◌, sym}
use Rattle.block_loop.proofs.FindLemmas.{unbegun}
use Rattle.block_loop.proofs.finding.has_first_byte.Goals as goal

pub returns : goal.returns
returns g c = λ none. unbegun (g.V.View.bytes c.args.view.now) c.read.new.into _ _ c.requires.part c.read.ensures
    c.memchr.ensures (sym c.is_some.ensures ∙ none)
