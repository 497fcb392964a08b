use Rattle.law_downloads.proofs.UpdateLemmas.{example-download, example-lost, example-steps}
use Rattle.law_downloads.proofs.examples.copy.an_update_that_lost_its_supply.Goals as goal

pub returns-clause-download : goal.returns-clause-download
returns-clause-download c = example-download

pub returns-clause-steps : goal.returns-clause-steps
returns-clause-steps c = example-steps

pub returns-clause-lost : goal.returns-clause-lost
returns-clause-lost c =
    example-lost c.a_cut_between_two_pages.ensures.session c.a_cut_between_two_pages.ensures.former
