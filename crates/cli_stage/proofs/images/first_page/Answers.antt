use Rattle.std.proofs.Common.{arith}
use Rattle.cli_stage.proofs.ImageLemmas.{loop-low}
use Rattle.cli_stage.proofs.images.first_page.Goals as goal

pub returns-in-Ok-clause-low : goal.returns-in-Ok-clause-low
returns-in-Ok-clause-low g c =
    let low = loop-low (g.V.View.bytes c.args.view.now) c.in-Ok.found c.at.result c.in-Ok.ensures.loop_ c.at.ensures in
    omega (arith, low)
