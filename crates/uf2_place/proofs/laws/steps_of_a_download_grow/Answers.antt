use Rattle.uf2_place.proofs.GrowingLemmas.{grow}
use Rattle.uf2_place.proofs.laws.steps_of_a_download_grow.Goals as goal

pub returns : goal.returns
returns c = grow
