-- By induction on the first list.
use Rattle.std.proofs.Common.{inl, inr}
use Rattle.pico_board.proofs.StepLemmas.{CutOf-append_cases, CutOf-append_left, CutOf-append_right}
use Rattle.pico_board.proofs.laws.cut_of_two_lists.Goals as goal

pub returns : goal.returns
returns c = λ before xs ys left. (
  CutOf-append_cases before xs ys left,
  λ cut. elim cut [
    | inl first ↦ CutOf-append_left before xs ys left first
    | inr second ↦ CutOf-append_right before xs
        ys left second
  ],
)
