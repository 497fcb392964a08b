use Rattle.std.proofs.Common.{refl}
use Rattle.trial_buy.specs.Buying.{page_programs}
use Rattle.trial_buy.proofs.RewriteLemmas.{cleared-content}
use Rattle.trial_buy.proofs.laws.a_buy_clears_the_trial_bit.Goals as goal

pub returns-clause-first : goal.returns-clause-first
unfolding page_programs
returns-clause-first c = λ content cpu choice. refl

pub returns-clause-cleared : goal.returns-clause-cleared
returns-clause-cleared c = λ content place right within. cleared-content content right place within
