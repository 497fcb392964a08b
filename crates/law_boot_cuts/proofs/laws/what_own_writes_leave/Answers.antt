use Rattle.law_boot_cuts.proofs.OwnLaws.{buy-pick, start-pick}
use Rattle.law_boot_cuts.proofs.laws.what_own_writes_leave.Goals as goal

pub returns-clause-start : goal.returns-clause-start
returns-clause-start c = λ content cpu kind choice u right h of updated plain.
    start-pick content cpu kind choice right h u of updated plain

pub returns-clause-buy : goal.returns-clause-buy
returns-clause-buy c = λ content cpu kind choice u right h of trial.
    buy-pick content cpu kind choice right h u of trial
