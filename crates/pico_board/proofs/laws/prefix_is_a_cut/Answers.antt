-- Power may be lost before the step that follows the prefix.
use Rattle.std.proofs.Common.{length}
use Rattle.std.proofs.lemmas.List.Elements.{recursion_from_All}
use Rattle.pico_board.specs.Steps.{IsStepIn}
use Rattle.pico_board.proofs.CuttingLemmas.{CutOf-prefix}
use Rattle.pico_board.proofs.laws.prefix_is_a_cut.Goals as goal

pub returns : goal.returns
returns c = λ before xs step ys is all. CutOf-prefix before xs step ys is
    (recursion_from_All (IsStepIn (length before.flash)) xs all)
