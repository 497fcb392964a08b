use Rattle.std.proofs.Common.{arith}
use Rattle.script_stage.proofs.StageLaws.{stage-is}
use Rattle.script_stage.proofs.laws.the_events_of_a_stage.Goals as goal

pub returns : goal.returns
returns c = λ w image page is_bought planned fits. stage-is w.start page is_bought image (omega (arith, planned.low, fits))
