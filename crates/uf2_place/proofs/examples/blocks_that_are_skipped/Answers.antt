-- By computing.
use Rattle.std.proofs.Common.{refl}
use Rattle.uf2_place.proofs.examples.blocks_that_are_skipped.Goals as goal

pub returns-clause-plain : goal.returns-clause-plain
returns-clause-plain c = refl

pub returns-clause-others : goal.returns-clause-others
returns-clause-others c = refl

pub returns-clause-not_main : goal.returns-clause-not_main
returns-clause-not_main c = refl

pub returns-clause-no_family : goal.returns-clause-no_family
returns-clause-no_family c = refl

pub returns-clause-extra : goal.returns-clause-extra
returns-clause-extra c = refl

pub returns-clause-last : goal.returns-clause-last
returns-clause-last c = refl

pub returns-clause-past : goal.returns-clause-past
returns-clause-past c = refl

pub returns-clause-below : goal.returns-clause-below
returns-clause-below c = refl

pub returns-clause-first : goal.returns-clause-first
returns-clause-first c = refl

pub returns-clause-other : goal.returns-clause-other
returns-clause-other c = refl
