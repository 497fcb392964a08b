use Rattle.law_boot_cuts.proofs.OwnLaws.{triples-rows}
use Rattle.law_boot_cuts.proofs.laws.triples_apart_keep_other_rows.Goals as goal

pub returns : goal.returns
returns c = λ content cpu kind choice u steps right h are keeps.
    triples-rows content cpu kind choice right h u steps are keeps
