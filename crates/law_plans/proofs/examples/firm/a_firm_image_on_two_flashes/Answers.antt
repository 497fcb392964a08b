use Rattle.law_plans.proofs.FirmFlashLemmas.{firm-alone_on, firm-bytes_on, never-required}
use Rattle.law_plans.proofs.examples.firm.a_firm_image_on_two_flashes.Goals as goal

pub returns-clause-firm : goal.returns-clause-firm
returns-clause-firm c = firm-alone_on

pub returns-clause-required : goal.returns-clause-required
returns-clause-required c = (firm-bytes_on 1, never-required)
