use Rattle.image_def.proofs.RelationLemmas.{faultless_from_ok, ok_from_faultless, fault_from_err, err_from_fault, item_fault_is, item_fault_from}
use Rattle.std.proofs.Common.{◌∙◌, ap, Ok}
use Rattle.image_def.proofs.laws.first_fault_exact.Goals as goal

pub returns-clause-defined : goal.returns-clause-defined
returns-clause-defined c b def = (λ e. faultless_from_ok b def e, λ p. ok_from_faultless b p.0 ∙ ap Ok p.1)

pub returns-clause-fault : goal.returns-clause-fault
returns-clause-fault c b f = (λ e. fault_from_err b f e, λ fault. err_from_fault b f fault)

pub returns-clause-item : goal.returns-clause-item
returns-clause-item c words before item f =
    (λ e. item_fault_is words before item f e, λ fault. item_fault_from words before item f fault)
