use Rattle.law_boot_cuts.proofs.OwnLaws.{own-decision, own-decision-table, own-pick}
use Rattle.law_boot_cuts.proofs.laws.boots_own_writes.Goals as goal

pub returns-clause-pick : goal.returns-clause-pick
returns-clause-pick c = λ content cpu kind choice u steps k step d right h of are at no_accident.
    own-pick content cpu kind choice right h u of steps are k step d at no_accident

pub returns-clause-decision : goal.returns-clause-decision
returns-clause-decision c = λ content cpu kind choice u steps k step d e right h of are at no_accident table done keeps former.
    own-decision content cpu kind choice right h u of steps are k step d at no_accident table done keeps e former

pub returns-clause-with_a_table : goal.returns-clause-with_a_table
returns-clause-with_a_table c = λ content cpu kind choice u found steps k step d e right h of is are at no_accident keeps
    former.
    own-decision-table content cpu kind choice right h u of found is steps are k step d at no_accident keeps e former
