use Rattle.boot_machine.proofs.OutcomeLemmas.{move-tells}
use Rattle.boot_machine.proofs.laws.run.outcomes_of_moves_are_in_range.Goals as goal

pub returns : goal.returns
returns c = move-tells
