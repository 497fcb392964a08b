use Rattle.image_check.proofs.LawLemmas.{trial-less, trial-more, trial-none}
use Rattle.image_check.proofs.laws.trial_allows_more.Goals as goal

pub returns-clause-more : goal.returns-clause-more
returns-clause-more c = trial-more

pub returns-clause-no_trial : goal.returns-clause-no_trial
returns-clause-no_trial c = trial-none

pub returns-clause-plain : goal.returns-clause-plain
returns-clause-plain c = trial-less
