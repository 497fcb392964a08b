use Rattle.law_cuts.proofs.SessionTraceLemmas.{last-is, moves-are, trace-is}
use Rattle.law_cuts.proofs.laws.a_trace_is_a_session.Goals as goal

pub returns-clause-steps : goal.returns-clause-steps
returns-clause-steps c = trace-is

pub returns-clause-last : goal.returns-clause-last
returns-clause-last c = last-is

pub returns-clause-moves : goal.returns-clause-moves
returns-clause-moves c = moves-are
