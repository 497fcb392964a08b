use Rattle.law_caveats.proofs.ChoiceLaws.{tie-doubt}
use Rattle.law_caveats.proofs.laws.no_doubt_of_a_tie.Goals as goal

pub returns : goal.returns
returns c = tie-doubt
