use Rattle.law_caveats.proofs.WindowLaws.{early-doubt}
use Rattle.law_caveats.proofs.laws.no_doubt_of_first_blocks.Goals as goal

pub returns : goal.returns
returns c = early-doubt
