use Rattle.law_staged.proofs.ToldLemmas.{told-cut}
use Rattle.law_staged.proofs.laws.a_staged_law_leaves_nothing_half_written.Goals as goal

pub returns : goal.returns
returns c = told-cut
