use Rattle.std.proofs.Common.{refl}
use Rattle.picoboot_cmd.specs.Pages.{padded_page}
use Rattle.law_staged.proofs.examples.the_steps_of_a_stage.Goals as goal

pub returns-clause-middle : goal.returns-clause-middle
unfolding padded_page
returns-clause-middle c = refl

pub returns-clause-first : goal.returns-clause-first
unfolding padded_page
returns-clause-first c = refl

pub returns-clause-last : goal.returns-clause-last
unfolding padded_page
returns-clause-last c = refl

pub returns-clause-rest : goal.returns-clause-rest
unfolding padded_page
returns-clause-rest c = refl
