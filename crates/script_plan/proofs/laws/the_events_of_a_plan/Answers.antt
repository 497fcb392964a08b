use Rattle.std.proofs.Common.{arith}
use Rattle.script_plan.proofs.PlanLaws.{long-events, sent-is, short-events}
use Rattle.script_plan.proofs.laws.the_events_of_a_plan.Goals as goal

pub returns-clause-short : goal.returns-clause-short
returns-clause-short c = λ w image planned fits few. short-events w.start image few

pub returns-clause-long : goal.returns-clause-long
returns-clause-long c = λ w image planned fits more.
    long-events w.start image (omega (arith, planned.low, fits)) more

pub returns-clause-sent : goal.returns-clause-sent
returns-clause-sent c = sent-is
