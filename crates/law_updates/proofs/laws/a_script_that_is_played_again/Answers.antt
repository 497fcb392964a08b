use Rattle.std.proofs.Common.{[]}
use Rattle.boot_session.specs.Sessions.{session}
use Rattle.law_updates.proofs.OftenLemmas.{often-ends, often-same, once-left}
use Rattle.law_updates.proofs.laws.a_script_that_is_played_again.Goals as goal

pub returns-clause-content : goal.returns-clause-content
returns-clause-content k = λ c d cpu events targets erased cut table.
    (let steps = session c cpu events in
    let none = (k.the_first_unerased_step_is_told.ensures.none steps).1 erased in
    often-ends c cpu events (λ x y lost. k.steps_that_are_done_again_come_to_one_end.ensures.again steps x y none lost)
    1 [] d (once-left c cpu events d targets cut table))

pub returns-clause-steps : goal.returns-clause-steps
returns-clause-steps k = λ c d cpu events targets named cut table.
    often-same c cpu events 1 [] d named (once-left c cpu events d targets cut table)
