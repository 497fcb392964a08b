use Rattle.std.proofs.Common.{◌*◌, ◌∙◌}
use Rattle.uf2_place.proofs.FileLemmas.{page-filled}
use Rattle.uf2_place.proofs.writing.page_of.Goals as goal

pub returns : goal.returns
returns c =
    c.copy_to_front.ensures
    ∙ page-filled c.args.image.now (256 * c.args.number) c.min-end.result 256 c.min-end.ensures
