-- By induction on the list.
use Rattle.pico_board.proofs.CuttingLemmas.{CutOf-from, IsCutAt-from}
use Rattle.pico_board.proofs.laws.cut_falls_in_a_step.Goals as goal

pub returns : goal.returns
returns c = λ before steps left. (IsCutAt-from before steps left, CutOf-from before steps left)
