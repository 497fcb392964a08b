use Rattle.boot_cuts.proofs.ReplayLemmas.{a-replay, cuts-at, in-trace}
use Rattle.boot_cuts.proofs.laws.a_cut_is_a_replay.Goals as goal

pub returns-clause-boots : goal.returns-clause-boots
returns-clause-boots c = a-replay

pub returns-clause-stands : goal.returns-clause-stands
returns-clause-stands c = in-trace

pub returns-clause-numbers : goal.returns-clause-numbers
returns-clause-numbers c = cuts-at
