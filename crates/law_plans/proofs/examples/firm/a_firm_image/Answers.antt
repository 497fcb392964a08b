use Rattle.law_plans.proofs.FirmImageLemmas.{is-firm}
use Rattle.law_plans.proofs.examples.firm.a_firm_image.Goals as goal

pub returns : goal.returns
returns c = is-firm
