use Rattle.law_targets.proofs.HomeTargetLemmas.{home-slot, home-target, none-words, own-words, slot-home, target-home}
use Rattle.law_targets.proofs.laws.which_targets_are_boot_members.Goals as goal

pub returns-clause-table : goal.returns-clause-table
returns-clause-table c = λ x cpu family target found right is targeted. (
  home-target x cpu family target found is right (own-words x cpu family target targeted found is),
  target-home x cpu family target found is,
)

pub returns-clause-slots : goal.returns-clause-slots
returns-clause-slots c = λ x cpu family target right none targeted. (
  home-slot x cpu family target none right (none-words x cpu family target targeted none),
  slot-home x cpu family target none,
)
