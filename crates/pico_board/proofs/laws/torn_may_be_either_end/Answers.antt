-- By cases on the step.
use Rattle.pico_board.proofs.CuttingLemmas.{Torn-after}
use Rattle.pico_board.proofs.TornStepLemmas.{Torn-before}
use Rattle.pico_board.proofs.laws.torn_may_be_either_end.Goals as goal

pub returns-clause-before : goal.returns-clause-before
returns-clause-before c = λ content step is. Torn-before content step is.flash_bytes

pub returns-clause-after : goal.returns-clause-after
returns-clause-after c = Torn-after
