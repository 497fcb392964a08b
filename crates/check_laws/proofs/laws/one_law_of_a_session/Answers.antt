use Rattle.check_laws.proofs.FirstLemmas.{one-session-of}
use Rattle.check_laws.proofs.laws.one_law_of_a_session.Goals as goal

pub returns : goal.returns
returns c = one-session-of
