use Rattle.uf2_place.proofs.RepeatedLemmas.{repeated-is}
use Rattle.uf2_place.proofs.laws.another_family_is_another_download.Goals as goal

pub returns-clause-again : goal.returns-clause-again
returns-clause-again c = repeated-is
