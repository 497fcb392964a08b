use Rattle.boot_firm.proofs.FirmnessLemmas.{firm-decides}
use Rattle.boot_firm.proofs.laws.firm_images_are_judged.Goals as goal

pub returns : goal.returns
returns c = firm-decides
