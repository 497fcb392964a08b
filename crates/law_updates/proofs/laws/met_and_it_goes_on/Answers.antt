use Rattle.law_updates.proofs.MetLemmas.{goes-on, leaves-whole}
use Rattle.law_updates.proofs.laws.met_and_it_goes_on.Goals as goal

pub returns-clause-cuts : goal.returns-clause-cuts
returns-clause-cuts c = leaves-whole

pub returns-clause-boots : goal.returns-clause-boots
returns-clause-boots c = goes-on
