use Rattle.image_check.proofs.SeenLemmas.{definition-typed}
use Rattle.image_check.proofs.examining.definition_in.Goals as goal

pub returns-clause-typed : goal.returns-clause-typed
returns-clause-typed g c =
    definition-typed (g.V.View.bytes c.args.view.now) c.args.found.now c.requires.loop_ c.args.cpu
    c.scan_blocks-seen.result.suiting
    c.scan_blocks-seen.ensures.suiting c.ok_or.result c.ok_or.ensures.value
