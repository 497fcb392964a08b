use Rattle.boot_machine.proofs.AnsweredTargetLemmas.{bytes-apart, target-answered, ruling-answered, served-answered}
use Rattle.boot_machine.proofs.laws.run.answered_target.Goals as goal

pub returns-clause-target : goal.returns-clause-target
returns-clause-target c = target-answered

pub returns-clause-one : goal.returns-clause-one
returns-clause-one c = bytes-apart

pub returns-clause-ruling : goal.returns-clause-ruling
returns-clause-ruling c = λ content cpu host command payload family answer bytes b is begins.
    ruling-answered content cpu host command payload family answer is bytes b begins

pub returns-clause-served : goal.returns-clause-served
returns-clause-served c = λ content cpu host command payload family answer bytes b is begins.
    served-answered content cpu host command payload family answer is bytes b begins
