use Rattle.std.proofs.Common.{refl}
use Rattle.uf2_place.proofs.OtherFamilyLemmas.{read-other, fault-other}
use Rattle.uf2_place.proofs.laws.the_family_is_no_fault.Goals as goal

pub returns-clause-read : goal.returns-clause-read
returns-clause-read c = read-other

pub returns-clause-fault : goal.returns-clause-fault
returns-clause-fault c = fault-other

pub returns-clause-files : goal.returns-clause-files
returns-clause-files c = λ image one other i. refl
