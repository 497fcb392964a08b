use Rattle.boot_rules.proofs.ChangeLemmas.{choose-same}
use Rattle.boot_rules.proofs.laws.equal_images_equal_choices.Goals as goal

pub returns : goal.returns
returns c = choose-same
