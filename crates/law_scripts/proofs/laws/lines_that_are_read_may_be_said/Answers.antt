use Rattle.law_scripts.proofs.SayingLemmas.{read-says}
use Rattle.law_scripts.proofs.laws.lines_that_are_read_may_be_said.Goals as goal

pub returns : goal.returns
returns c = read-says
