use Rattle.image_check.proofs.LawLemmas.{record-of-valid}
use Rattle.image_check.proofs.laws.a_record_says_what_the_image_says.Goals as goal

pub returns : goal.returns
returns c = record-of-valid
