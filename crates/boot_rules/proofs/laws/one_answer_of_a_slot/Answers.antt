use Rattle.boot_rules.proofs.SlotLemmas.{answer-only, answer-right}
use Rattle.boot_rules.proofs.laws.one_answer_of_a_slot.Goals as goal

pub returns-clause-right : goal.returns-clause-right
returns-clause-right c = answer-right

pub returns-clause-only : goal.returns-clause-only
returns-clause-only c = answer-only
