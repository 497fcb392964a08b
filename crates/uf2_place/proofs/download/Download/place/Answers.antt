use Rattle.std.proofs.Common.{◌<◌, Bool, List, not, sym, subst, ◌∙◌}
use Rattle.std.specs.Prelude.{count_by}
use Rattle.uf2_place.proofs.download.Download.place.Goals as goal

pub returns-in-Ok-clause-free : goal.returns-in-Ok-clause-free
returns-in-Ok-clause-free g c = λ free none.
    subst (λ (out : List Bool). 0 < count_by not out) (sym c.place_block.ensures.numbers)
    (free (sym c.place_block.ensures.lease ∙ none))

pub returns-in-Ok-2-clause-free : goal.returns-in-Ok-2-clause-free
returns-in-Ok-2-clause-free g c = λ free none.
    c.release.ensures.free (λ gone. subst (λ (out : List Bool). 0 < count_by not out)
    (sym c.place_block.ensures.numbers)
    (free (sym c.place_block.ensures.lease ∙ gone)))

pub returns-in-Err-clause-free : goal.returns-in-Err-clause-free
returns-in-Err-clause-free g c = λ free none.
    c.release-in-Err.ensures.free (λ gone. subst (λ (out : List Bool). 0 < count_by not out)
    (sym c.place_block.ensures.numbers)
    (free (sym c.place_block.ensures.lease ∙ gone)))
