use Rattle.std.proofs.Common.{◌∙◌, sym}
use Rattle.check_data.proofs.CodeLemmas.{and-else, and-then}
use Rattle.check_data.proofs.loose.is_loose.Goals as goal

pub returns-then-programmed : goal.returns-then-programmed
returns-then-programmed c =
    λ steps loop is e. and-then _ _ _ (sym e ∙ c.if-programmed.true) (c.is_uncovered.ensures loop is)

pub returns-else-programmed : goal.returns-else-programmed
returns-else-programmed c = λ steps loop is e. and-else _ _ _ e c.if-programmed.false
