use Rattle.law_cuts.proofs.EndLemmas.{end-is}
use Rattle.law_cuts.proofs.laws.an_end_without_a_cut_is_whole_or_none.Goals as goal

pub returns : goal.returns
returns c = λ content cpu events class quiet is. end-is content cpu events class quiet is
