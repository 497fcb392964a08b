use Rattle.image_check.proofs.LawLemmas.{not-below}
use Rattle.image_check.proofs.laws.valid_is_not_below.Goals as goal

pub returns : goal.returns
returns c = not-below
