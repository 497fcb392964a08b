use Rattle.std.proofs.Common.{refl}
use Rattle.trial_buy.specs.Buying.{page_programs}
use Rattle.trial_buy.proofs.StartLemmas.{starts-both, starts-raises, starts-nothing}
use Rattle.trial_buy.proofs.laws.what_a_start_writes.Goals as goal

pub returns-clause-both : goal.returns-clause-both
returns-clause-both c = starts-both

pub returns-clause-raises_alone : goal.returns-clause-raises_alone
returns-clause-raises_alone c = starts-raises

pub returns-clause-nothing : goal.returns-clause-nothing
returns-clause-nothing c = starts-nothing

pub returns-clause-bought : goal.returns-clause-bought
unfolding page_programs
returns-clause-bought c = λ content cpu choice. refl
