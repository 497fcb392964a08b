use Rattle.image_check.proofs.LawLemmas.{map-none, map-some}
use Rattle.image_check.proofs.laws.what_an_image_loads.Goals as goal

pub returns-clause-none : goal.returns-clause-none
returns-clause-none c = map-none

pub returns-clause-some : goal.returns-clause-some
returns-clause-some c = map-some
