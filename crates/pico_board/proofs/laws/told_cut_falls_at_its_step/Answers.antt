-- By induction on the list.
use Rattle.pico_board.proofs.CutListLemmas.{told_all-cut, told_all-none, told_all-whole}
use Rattle.pico_board.proofs.laws.told_cut_falls_at_its_step.Goals as goal

pub returns-clause-none : goal.returns-clause-none
returns-clause-none c = told_all-none

pub returns-clause-cut : goal.returns-clause-cut
returns-clause-cut c = told_all-cut

pub returns-clause-whole : goal.returns-clause-whole
returns-clause-whole c = told_all-whole
