use Rattle.boot_machine.proofs.laws.run.a_step_tells_what_it_did.Goals as goal

pub returns-clause-recorded : goal.returns-clause-recorded
returns-clause-recorded c = λ content old new m event outcome steps is told done. is.recorded told steps done

pub returns-clause-lost : goal.returns-clause-lost
returns-clause-lost c = λ content old new m event outcome is told.
    (let lost = is.lost told in (lost.off, lost.power, lost.rose))
