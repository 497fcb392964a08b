use Rattle.boot_rules.proofs.HomeLemmas.{home-pair, pair-home}
use Rattle.boot_rules.proofs.laws.a_boot_member_is_of_a_pair.Goals as goal

pub returns-clause-pair : goal.returns-clause-pair
returns-clause-pair c = home-pair

pub returns-clause-members : goal.returns-clause-members
returns-clause-members c = pair-home
