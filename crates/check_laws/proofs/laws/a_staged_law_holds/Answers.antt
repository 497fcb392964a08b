use Rattle.check_laws.proofs.FirstLemmas.{staged-law}
use Rattle.check_laws.proofs.laws.a_staged_law_holds.Goals as goal

pub returns : goal.returns
returns c = staged-law
