use Rattle.std.proofs.lemmas.List.{get_or_past}
use Rattle.script_plan.proofs.LoadLaws.{load-is, sector-byte, sector-long}
use Rattle.script_plan.proofs.laws.the_events_of_a_load.Goals as goal

pub returns-clause-events : goal.returns-clause-events
returns-clause-events c = λ w image planned fits. load-is w.start image

pub returns-clause-bytes : goal.returns-clause-bytes
returns-clause-bytes c = sector-byte

pub returns-clause-past : goal.returns-clause-past
returns-clause-past c = λ image i past. get_or_past image i 0 past

pub returns-clause-long : goal.returns-clause-long
returns-clause-long c = sector-long
