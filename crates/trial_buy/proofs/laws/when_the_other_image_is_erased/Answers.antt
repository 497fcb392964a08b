use Rattle.trial_buy.proofs.EraseLemmas.{alone, erased, not-better, not-updated, unheld}
use Rattle.trial_buy.proofs.laws.when_the_other_image_is_erased.Goals as goal

pub returns-clause-erased : goal.returns-clause-erased
returns-clause-erased c = erased

pub returns-clause-not_better : goal.returns-clause-not_better
returns-clause-not_better c = not-better

pub returns-clause-no_image : goal.returns-clause-no_image
returns-clause-no_image c = unheld

pub returns-clause-alone : goal.returns-clause-alone
returns-clause-alone c = alone

pub returns-clause-not_updated : goal.returns-clause-not_updated
returns-clause-not_updated c = not-updated
