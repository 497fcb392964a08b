-- By computing.
use Rattle.std.proofs.Common.{refl}
use Rattle.slot_choice.proofs.examples.updates_are_found.Goals as goal

pub returns-clause-second : goal.returns-clause-second
returns-clause-second c = refl

pub returns-clause-first : goal.returns-clause-first
returns-clause-first c = refl

pub returns-clause-inside : goal.returns-clause-inside
returns-clause-inside c = refl

pub returns-clause-offset : goal.returns-clause-offset
returns-clause-offset c = refl

pub returns-clause-start : goal.returns-clause-start
returns-clause-start c = refl

pub returns-clause-below : goal.returns-clause-below
returns-clause-below c = refl

pub returns-clause-both : goal.returns-clause-both
returns-clause-both c = refl

pub returns-clause-earlier : goal.returns-clause-earlier
returns-clause-earlier c = refl

pub returns-clause-earlier_order : goal.returns-clause-earlier_order
returns-clause-earlier_order c = refl

pub returns-clause-moved : goal.returns-clause-moved
returns-clause-moved c = refl

pub returns-clause-middle : goal.returns-clause-middle
returns-clause-middle c = refl

pub returns-clause-stays : goal.returns-clause-stays
returns-clause-stays c = refl

pub returns-clause-below_order : goal.returns-clause-below_order
returns-clause-below_order c = refl
