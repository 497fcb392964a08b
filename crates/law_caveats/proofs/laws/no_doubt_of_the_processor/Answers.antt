use Rattle.law_caveats.proofs.ProcessorLaws.{processor-doubt}
use Rattle.law_caveats.proofs.laws.no_doubt_of_the_processor.Goals as goal

pub returns : goal.returns
returns c = processor-doubt
