use Rattle.std.proofs.Common.{◌∙◌, ap}
use Rattle.block_codec.specs.Reading.{front_block}
use Rattle.block_loop.proofs.FindLemmas.{part_read}
use Rattle.block_loop.proofs.finding.block_in.Goals as goal

pub returns-clause-exact : goal.returns-clause-exact
returns-clause-exact g c =
    c.read_block.ensures.exact ∙ ap (front_block c.args.at) c.read.ensures
    ∙ part_read (g.V.View.bytes c.args.view.now) c.args.at _ c.requires.aligned c.requires.part
