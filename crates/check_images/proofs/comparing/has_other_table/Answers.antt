use Rattle.std.proofs.Common.{◌∙◌}
use Rattle.check_images.proofs.TableLemmas.{borrowed-others}
use Rattle.check_images.proofs.comparing.has_other_table.Goals as goal

pub returns : goal.returns
returns c =
    borrowed-others _ _ c.as_ref.result c.as_ref-2.result (c.as_ref.ensures.value ∙ c.find_table-first.ensures.exact)
    (c.as_ref-2.ensures.value ∙ c.find_table-last.ensures.exact) c.is_same_found.result c.is_same_found.ensures
