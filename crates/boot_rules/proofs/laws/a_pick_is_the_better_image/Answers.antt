use Rattle.boot_rules.proofs.PickLaws.{pick-none, pick-some}
use Rattle.boot_rules.proofs.laws.a_pick_is_the_better_image.Goals as goal

pub returns-clause-some : goal.returns-clause-some
returns-clause-some c = pick-some

pub returns-clause-none : goal.returns-clause-none
returns-clause-none c = pick-none
