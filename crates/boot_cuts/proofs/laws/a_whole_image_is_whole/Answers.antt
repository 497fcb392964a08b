use Rattle.boot_cuts.proofs.ClassLemmas.{whole-has}
use Rattle.boot_cuts.proofs.laws.a_whole_image_is_whole.Goals as goal

pub returns : goal.returns
returns c = λ first last d moves cpu is. whole-has first last moves d cpu is.2
