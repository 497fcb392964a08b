-- A prefix ends among the steps elsewhere or among the last programs.
use Rattle.pico_board.proofs.GateLemmas.{Gated-left, sixteen}
use Rattle.pico_board.proofs.laws.prefix_of_gated_is_gated.Goals as goal

pub returns-clause-prefix : goal.returns-clause-prefix
returns-clause-prefix c = Gated-left

pub returns-clause-sixteen : goal.returns-clause-sixteen
returns-clause-sixteen c = sixteen
