use Rattle.trial_buy.proofs.EraseLemmas.{beside-a, beside-b}
use Rattle.trial_buy.proofs.laws.a_better_image_is_the_choice_in_a_unit.Goals as goal

pub returns-clause-beside_a : goal.returns-clause-beside_a
returns-clause-beside_a c = beside-a

pub returns-clause-beside_b : goal.returns-clause-beside_b
returns-clause-beside_b c = beside-b
