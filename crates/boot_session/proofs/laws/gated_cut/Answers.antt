use Rattle.boot_session.proofs.GatedLaws.{gated-decision, gated-table, never-unfinished}
use Rattle.boot_session.proofs.laws.gated_cut.Goals as goal

pub returns-clause-decision : goal.returns-clause-decision
returns-clause-decision c = gated-decision

pub returns-clause-table : goal.returns-clause-table
returns-clause-table c = gated-table

pub returns-clause-unfinished : goal.returns-clause-unfinished
returns-clause-unfinished c = never-unfinished
