use Rattle.cli_inputs.proofs.FormLemmas.{formed, faulty, fault-exact}
use Rattle.cli_inputs.proofs.InputLemmas.{no-fault}
use Rattle.cli_inputs.proofs.laws.forms_are_judged.Goals as goal

pub returns-clause-fault : goal.returns-clause-fault
returns-clause-fault c = λ form bytes fault. (faulty form bytes fault, fault-exact form bytes fault)

pub returns-clause-none : goal.returns-clause-none
returns-clause-none c = λ form bytes. (formed form bytes, no-fault form bytes)
