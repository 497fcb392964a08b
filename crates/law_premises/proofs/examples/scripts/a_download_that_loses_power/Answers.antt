use Rattle.law_premises.proofs.examples.scripts.a_download_that_loses_power.Goals as goal

pub returns-clause-cut : goal.returns-clause-cut
returns-clause-cut c = c.an_update_that_lost_its_supply.ensures.lost.lost

pub returns-clause-updates : goal.returns-clause-updates
returns-clause-updates c = (c.an_update_that_lost_its_supply.ensures.lost, tt)
