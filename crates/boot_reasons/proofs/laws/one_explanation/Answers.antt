use Rattle.boot_reasons.proofs.ReasonLemmas.{reasons-only, reasons-right}
use Rattle.boot_reasons.proofs.laws.one_explanation.Goals as goal

pub returns-clause-right : goal.returns-clause-right
returns-clause-right c = reasons-right

pub returns-clause-only : goal.returns-clause-only
returns-clause-only c = reasons-only
