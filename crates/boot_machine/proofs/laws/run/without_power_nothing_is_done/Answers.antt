use Rattle.boot_machine.proofs.MovePlaceLemmas.{off-stays, off-outcome, cut-moves, end-moves}
use Rattle.boot_machine.proofs.laws.run.without_power_nothing_is_done.Goals as goal

pub returns-clause-stays : goal.returns-clause-stays
returns-clause-stays c = λ m n event outcome at power cut moves. off-stays m n outcome at event power cut moves

pub returns-clause-told : goal.returns-clause-told
returns-clause-told c = λ m n event outcome at power end cut moves. off-outcome m n outcome at event power end cut moves

pub returns-clause-cut : goal.returns-clause-cut
returns-clause-cut c = cut-moves

pub returns-clause-end : goal.returns-clause-end
returns-clause-end c = end-moves
