use Rattle.boot_rules.proofs.ChangeLemmas.{changed-then-none}
use Rattle.boot_rules.proofs.laws.a_window_empties.Goals as goal

pub returns : goal.returns
returns c = λ w f g order but placed out none. changed-then-none w f g order but placed out none
