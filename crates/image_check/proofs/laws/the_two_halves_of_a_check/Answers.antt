use Rattle.image_check.proofs.ExaminedLemmas.{examined-image}
use Rattle.image_check.proofs.laws.the_two_halves_of_a_check.Goals as goal

pub returns : goal.returns
returns c = examined-image
