use Rattle.boot_rules.proofs.StartLemmas.{of-unit, start, start-other, start-placed, start-trial, start-valid}
use Rattle.boot_rules.proofs.laws.what_a_start_gives.Goals as goal

pub returns-clause-unit : goal.returns-clause-unit
returns-clause-unit c = λ content cpu kind choice h.
    ((start content cpu kind choice h).unit, of-unit content cpu kind choice h)

pub returns-clause-window : goal.returns-clause-window
returns-clause-window c = start-placed

pub returns-clause-other : goal.returns-clause-other
returns-clause-other c = start-other

pub returns-clause-valid : goal.returns-clause-valid
returns-clause-valid c = start-valid

pub returns-clause-trial : goal.returns-clause-trial
returns-clause-trial c = start-trial
