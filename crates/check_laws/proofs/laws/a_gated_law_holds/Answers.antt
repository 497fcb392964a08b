use Rattle.check_laws.proofs.FirstLemmas.{gated-law}
use Rattle.check_laws.proofs.laws.a_gated_law_holds.Goals as goal

pub returns : goal.returns
returns c = gated-law
