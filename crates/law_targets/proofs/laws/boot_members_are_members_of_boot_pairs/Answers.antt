use Rattle.law_targets.proofs.HomeLemmas.{home-slots, home-words, slots-home, words-home}
use Rattle.law_targets.proofs.laws.boot_members_are_members_of_boot_pairs.Goals as goal

pub returns-clause-table : goal.returns-clause-table
returns-clause-table c = λ x w cpu found is. (home-words x cpu w found is, words-home x cpu w found is)

pub returns-clause-slots : goal.returns-clause-slots
returns-clause-slots c = λ x w cpu none. (home-slots x cpu w none, λ p. slots-home x cpu w none p.0 p.1)
