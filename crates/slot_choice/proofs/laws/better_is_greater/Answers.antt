-- By the lemmas on versions.
use Rattle.slot_choice.proofs.VersionLemmas.{none_better, second_better, swapped, tie}
use Rattle.slot_choice.proofs.laws.better_is_greater.Goals as goal

pub returns-clause-second : goal.returns-clause-second
returns-clause-second c = second_better

pub returns-clause-tie : goal.returns-clause-tie
returns-clause-tie c = tie

pub returns-clause-swapped : goal.returns-clause-swapped
returns-clause-swapped c = swapped

pub returns-clause-none : goal.returns-clause-none
returns-clause-none c = none_better
