use Rattle.uf2_place.proofs.GatingLemmas.{gated-download}
use Rattle.uf2_place.proofs.laws.gated_download.Goals as goal

pub returns : goal.returns
returns c = gated-download
