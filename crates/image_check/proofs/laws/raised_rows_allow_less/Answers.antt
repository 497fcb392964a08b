use Rattle.image_check.proofs.LawLemmas.{not-below}
use Rattle.image_check.proofs.RollbackLemmas.{raised-below, valid-elsewhere}
use Rattle.image_check.proofs.laws.raised_rows_allow_less.Goals as goal

pub returns-clause-raised : goal.returns-clause-raised
returns-clause-raised c = λ a w cpu trial old new bytes s rises v.
    valid-elsewhere a w cpu trial new old bytes s v
    (raised-below old new s rises (not-below a w cpu trial new bytes s v))

pub returns-clause-not_below : goal.returns-clause-not_below
returns-clause-not_below c = raised-below

pub returns-clause-others : goal.returns-clause-others
returns-clause-others c = valid-elsewhere
