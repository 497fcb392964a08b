use Rattle.std.proofs.Common.{sym, ◌∙◌}
use Rattle.image_check.proofs.SeenLemmas.{wrong-items}
use Rattle.image_check.proofs.examining.defined_in.Goals as goal

pub returns-in-Err-read_def-clause-exact : goal.returns-in-Err-read_def-clause-exact
returns-in-Err-read_def-clause-exact g c =
    wrong-items (g.V.View.bytes c.args.view.now) c.in-Ok.found c.in-Ok.ensures.loop_ c.args.cpu
    c.in-Ok-definition_in.block c.in-Err-read_def.fault
    (λ loop is. sym c.in-Ok-definition_in.is ∙ c.definition_in.ensures.exact loop is) (sym c.read_def.ensures.value
    ∙ c.in-Err-read_def.is)
