use Rattle.law_boot_cuts.proofs.OwnLaws.{own-table}
use Rattle.law_boot_cuts.proofs.laws.own_writes_keep_the_table.Goals as goal

pub returns : goal.returns
returns c = λ content cpu kind choice steps d found right h are left is.
    own-table content cpu kind choice right h found is steps are d left
