use Rattle.law_targets.proofs.OneLemmas.{no-target-words, one-target, words-target}
use Rattle.law_targets.proofs.TargetLemmas.{target-words}
use Rattle.law_targets.proofs.laws.a_target_is_that_of_the_rules.Goals as goal

pub returns-clause-some : goal.returns-clause-some
returns-clause-some c = λ x t cpu family target sound.
    (target-words x cpu family t sound target, words-target x cpu family t sound target)

pub returns-clause-none : goal.returns-clause-none
returns-clause-none c = λ x t cpu family sound. no-target-words x cpu family t sound

pub returns-clause-one : goal.returns-clause-one
returns-clause-one c = λ x t cpu family a b sound. one-target x cpu family t sound a b
