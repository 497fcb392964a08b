-- By the lemmas on updates.
use Rattle.slot_choice.proofs.UpdateLemmas.{not_updated, order_permutes, updated}
use Rattle.slot_choice.proofs.laws.updates_go_first.Goals as goal

pub returns-clause-same : goal.returns-clause-same
returns-clause-same c = order_permutes

pub returns-clause-none : goal.returns-clause-none
returns-clause-none c = not_updated

pub returns-clause-some : goal.returns-clause-some
returns-clause-some c = updated

pub returns-clause-first : goal.returns-clause-first
returns-clause-first c = λ us base m u w update. update.first
