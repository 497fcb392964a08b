use Rattle.script_plan.specs.Commands.{sent}
use Rattle.law_cuts.proofs.examples.a_script_without_a_cut.Goals as goal

pub returns-clause-script : goal.returns-clause-script
unfolding sent
returns-clause-script c = (tt, (tt, (tt, (tt, tt))))
