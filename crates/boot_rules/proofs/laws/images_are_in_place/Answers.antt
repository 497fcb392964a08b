use Rattle.boot_rules.proofs.ChangeLemmas.{images-placed}
use Rattle.boot_rules.proofs.laws.images_are_in_place.Goals as goal

pub returns : goal.returns
returns c = images-placed
