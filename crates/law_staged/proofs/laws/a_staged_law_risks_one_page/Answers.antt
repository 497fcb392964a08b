use Rattle.law_staged.proofs.ToldLemmas.{told-torn}
use Rattle.law_staged.proofs.laws.a_staged_law_risks_one_page.Goals as goal

pub returns : goal.returns
returns c = told-torn
