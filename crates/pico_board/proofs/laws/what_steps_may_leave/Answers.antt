-- By cases on the last step.
use Rattle.std.proofs.Common.{length, [], ◌∷◌, ◌++◌, refl, inl, inr}
use Rattle.std.proofs.lemmas.List.Elements.{recursion_from_All}
use Rattle.pico_board.specs.Steps.{IsStepIn}
use Rattle.pico_board.proofs.CuttingLemmas.{CutOf-end}
use Rattle.pico_board.proofs.laws.what_steps_may_leave.Goals as goal

pub returns-clause-whole : goal.returns-clause-whole
returns-clause-whole c = λ content steps. inl refl

pub returns-clause-cut : goal.returns-clause-cut
returns-clause-cut c = λ content steps left cut. inr cut

pub returns-clause-at_the_end : goal.returns-clause-at_the_end
returns-clause-at_the_end c = λ content steps step is all. CutOf-end content steps step is
    (recursion_from_All (IsStepIn (length content.flash)) (steps ++ step ∷ []) all)

pub returns-clause-no_step : goal.returns-clause-no_step
returns-clause-no_step c = λ content left never. never
