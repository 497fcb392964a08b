use Rattle.boot_machine.proofs.MoveLemmas.{told-one, told-next, untold-next}
use Rattle.boot_machine.proofs.laws.run.a_told_cut_decides.Goals as goal

pub returns-clause-one : goal.returns-clause-one
returns-clause-one c = told-one

pub returns-clause-told : goal.returns-clause-told
returns-clause-told c = told-next

pub returns-clause-untold : goal.returns-clause-untold
returns-clause-untold c = untold-next
