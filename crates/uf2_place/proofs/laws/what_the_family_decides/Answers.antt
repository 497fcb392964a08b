use Rattle.uf2_place.proofs.OtherFamilyLemmas.{placed-other}
use Rattle.uf2_place.proofs.laws.what_the_family_decides.Goals as goal

pub returns-clause-steps : goal.returns-clause-steps
returns-clause-steps c = placed-other
