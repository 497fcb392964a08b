-- By induction on the list.
use Rattle.pico_board.proofs.CuttingLemmas.{IsContent-MayLeave}
use Rattle.pico_board.proofs.laws.steps_leave_a_content.Goals as goal

pub returns : goal.returns
returns c = IsContent-MayLeave
