-- The cut falls in the erase, in a step elsewhere, or in a last program.
use Rattle.pico_board.proofs.PhaseLemmas.{phase, prefix_phase, unfinished_phase}
use Rattle.pico_board.proofs.laws.phases_of_a_gated_list.Goals as goal

pub returns-clause-cut : goal.returns-clause-cut
returns-clause-cut c = phase

pub returns-clause-unfinished : goal.returns-clause-unfinished
returns-clause-unfinished c = unfinished_phase

pub returns-clause-prefix : goal.returns-clause-prefix
returns-clause-prefix c = prefix_phase
