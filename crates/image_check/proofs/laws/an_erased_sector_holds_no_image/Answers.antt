use Rattle.image_check.proofs.LawLemmas.{erased-none}
use Rattle.image_check.proofs.laws.an_erased_sector_holds_no_image.Goals as goal

pub returns : goal.returns
returns c = erased-none
