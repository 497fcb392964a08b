use Rattle.image_pack.proofs.FaultLemmas.{no-fault, one-fault}
use Rattle.image_pack.proofs.laws.at_most_one_fault.Goals as goal

pub returns-clause-one : goal.returns-clause-one
returns-clause-one c = one-fault

pub returns-clause-none : goal.returns-clause-none
returns-clause-none c = λ binary spec e sealed fault. no-fault binary spec sealed e fault
