-- By computing.
use Rattle.std.proofs.Common.{refl}
use Rattle.uf2_place.specs.Marks.{is_marked}
use Rattle.uf2_place.proofs.examples.rulings_of_blocks.Goals as goal

pub returns-clause-begins : goal.returns-clause-begins
unfolding is_marked
returns-clause-begins c = refl

pub returns-clause-continues : goal.returns-clause-continues
unfolding is_marked
returns-clause-continues c = refl

pub returns-clause-again : goal.returns-clause-again
unfolding is_marked
returns-clause-again c = refl

pub returns-clause-no_target : goal.returns-clause-no_target
unfolding is_marked
returns-clause-no_target c = refl

pub returns-clause-outside : goal.returns-clause-outside
unfolding is_marked
returns-clause-outside c = refl

pub returns-clause-skipped_and_no_target : goal.returns-clause-skipped_and_no_target
unfolding is_marked
returns-clause-skipped_and_no_target c = refl

pub returns-clause-skipped_and_again : goal.returns-clause-skipped_and_again
unfolding is_marked
returns-clause-skipped_and_again c = refl

pub returns-clause-again_and_outside : goal.returns-clause-again_and_outside
unfolding is_marked
returns-clause-again_and_outside c = refl

pub returns-clause-no_target_and_outside : goal.returns-clause-no_target_and_outside
unfolding is_marked
returns-clause-no_target_and_outside c = refl
