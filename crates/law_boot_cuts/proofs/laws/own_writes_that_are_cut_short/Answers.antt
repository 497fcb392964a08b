use Rattle.law_boot_cuts.proofs.PartLemmas.{part-decision}
use Rattle.law_boot_cuts.proofs.laws.own_writes_that_are_cut_short.Goals as goal

pub returns : goal.returns
returns c = λ content cpu kind choice u found steps done rest k step d e right h of is are begins keeps at no_accident
    former.
    part-decision content cpu kind choice right h u of found is steps are done rest begins keeps k step d at no_accident e
    former
