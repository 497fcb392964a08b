use Rattle.law_caveats.proofs.MemberLaws.{both-doubt}
use Rattle.law_caveats.proofs.laws.no_doubt_of_the_processor_first.Goals as goal

pub returns : goal.returns
returns c = both-doubt
