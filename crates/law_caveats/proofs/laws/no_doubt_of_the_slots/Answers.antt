use Rattle.law_caveats.proofs.ProcessorLaws.{slots-doubt}
use Rattle.law_caveats.proofs.laws.no_doubt_of_the_slots.Goals as goal

pub returns : goal.returns
returns c = slots-doubt
