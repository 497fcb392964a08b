use Rattle.std.proofs.Common.{refl, take_all}
use Rattle.boot_session.specs.Recordings.{first_steps, kept_steps, step_limit}
use Rattle.boot_session.proofs.examples.session.the_most_steps.Goals as goal

pub returns-clause-limit : goal.returns-clause-limit
unfolding step_limit
returns-clause-limit c = refl

pub returns-clause-whole : goal.returns-clause-whole
unfolding kept_steps step_limit
returns-clause-whole c = λ steps few. take_all 262144 steps few

pub returns-clause-kept : goal.returns-clause-kept
unfolding first_steps
returns-clause-kept c = λ steps few. take_all 262145 steps few
