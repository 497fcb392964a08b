-- By computing.
use Rattle.std.proofs.Common.{refl}
use Rattle.uf2_place.specs.Marks.{is_marked}
use Rattle.uf2_place.proofs.examples.rulings_on_another_family.Goals as goal

pub returns-clause-same : goal.returns-clause-same
unfolding is_marked
returns-clause-same c = refl

pub returns-clause-other : goal.returns-clause-other
unfolding is_marked
returns-clause-other c = refl

pub returns-clause-no_target : goal.returns-clause-no_target
unfolding is_marked
returns-clause-no_target c = refl

pub returns-clause-next : goal.returns-clause-next
unfolding is_marked
returns-clause-next c = refl

pub returns-clause-next_of_another : goal.returns-clause-next_of_another
unfolding is_marked
returns-clause-next_of_another c = refl

pub returns-clause-outside : goal.returns-clause-outside
unfolding is_marked
returns-clause-outside c = refl

pub returns-clause-absolute : goal.returns-clause-absolute
unfolding is_marked
returns-clause-absolute c = refl

pub returns-clause-absolute_inside : goal.returns-clause-absolute_inside
unfolding is_marked
returns-clause-absolute_inside c = refl
