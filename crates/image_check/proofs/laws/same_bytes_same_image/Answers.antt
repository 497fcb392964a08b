use Rattle.image_check.proofs.LawLemmas.{same-image, valid-held}
use Rattle.image_check.proofs.laws.same_bytes_same_image.Goals as goal

pub returns-clause-held : goal.returns-clause-held
returns-clause-held c = valid-held

pub returns-clause-same : goal.returns-clause-same
returns-clause-same c = same-image
