use Rattle.law_caveats.proofs.ChoiceLaws.{update-doubt}
use Rattle.law_caveats.proofs.laws.no_doubt_of_an_update.Goals as goal

pub returns : goal.returns
returns c = update-doubt
