use Rattle.boot_rules.proofs.ChangeLemmas.{changed, changed-stays}
use Rattle.boot_rules.proofs.laws.a_window_changes.Goals as goal

pub returns-clause-choice : goal.returns-clause-choice
returns-clause-choice c = λ w f g order but placed in_place out. changed w f g order but placed out in_place

pub returns-clause-stays : goal.returns-clause-stays
returns-clause-stays c = changed-stays
