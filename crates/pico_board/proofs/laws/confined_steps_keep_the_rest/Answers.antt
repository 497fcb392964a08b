-- By induction on the list.
use Rattle.pico_board.proofs.ConfinementLemmas.{confined-MayLeave, window_bytes-apart}
use Rattle.pico_board.proofs.laws.confined_steps_keep_the_rest.Goals as goal

pub returns-clause-rest : goal.returns-clause-rest
returns-clause-rest c = λ before window steps left. confined-MayLeave before window steps left

pub returns-clause-windows : goal.returns-clause-windows
returns-clause-windows c = λ before written other left same. window_bytes-apart before left written other same.outside
