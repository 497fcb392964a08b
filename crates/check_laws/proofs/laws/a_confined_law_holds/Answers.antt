use Rattle.check_laws.proofs.FirstLemmas.{confined-law}
use Rattle.check_laws.proofs.laws.a_confined_law_holds.Goals as goal

pub returns : goal.returns
returns c = confined-law
