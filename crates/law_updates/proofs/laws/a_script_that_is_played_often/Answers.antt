use Rattle.boot_session.specs.Sessions.{session}
use Rattle.law_updates.proofs.OftenLemmas.{often-ends, often-same}
use Rattle.law_updates.proofs.laws.a_script_that_is_played_often.Goals as goal

pub returns-clause-steps : goal.returns-clause-steps
returns-clause-steps k = λ n c d cpu events raises named left. often-same c cpu events n raises d named left

pub returns-clause-content : goal.returns-clause-content
returns-clause-content k = λ n c d cpu events raises erased left.
    (let steps = session c cpu events in
    let none = (k.the_first_unerased_step_is_told.ensures.none steps).1 erased in
    often-ends c cpu events (λ x y lost. k.steps_that_are_done_again_come_to_one_end.ensures.again steps x y none lost)
    n raises d left)
