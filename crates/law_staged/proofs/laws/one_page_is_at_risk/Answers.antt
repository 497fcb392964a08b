use Rattle.law_staged.proofs.StagedLemmas.{staged-torn}
use Rattle.law_staged.proofs.laws.one_page_is_at_risk.Goals as goal

pub returns : goal.returns
returns c = staged-torn
