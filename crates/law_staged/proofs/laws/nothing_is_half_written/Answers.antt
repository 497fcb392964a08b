use Rattle.law_staged.proofs.StagedLemmas.{staged-cut}
use Rattle.law_staged.proofs.laws.nothing_is_half_written.Goals as goal

pub returns : goal.returns
returns c = staged-cut
