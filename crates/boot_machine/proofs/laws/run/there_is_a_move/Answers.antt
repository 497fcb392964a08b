use Rattle.boot_machine.proofs.MoveLemmas.{move-untold, move-unarmed, move-alone, move-armed}
use Rattle.boot_machine.proofs.laws.run.there_is_a_move.Goals as goal

pub returns-clause-untold : goal.returns-clause-untold
returns-clause-untold c = move-untold

pub returns-clause-unarmed : goal.returns-clause-unarmed
returns-clause-unarmed c = move-unarmed

pub returns-clause-alone : goal.returns-clause-alone
returns-clause-alone c = move-alone

pub returns-clause-armed : goal.returns-clause-armed
returns-clause-armed c = move-armed
