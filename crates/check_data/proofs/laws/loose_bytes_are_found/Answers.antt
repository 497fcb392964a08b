use Rattle.check_data.proofs.LooseLemmas.{loose-exactly, loose-rise}
use Rattle.check_data.proofs.laws.loose_bytes_are_found.Goals as goal

pub returns-clause-each : goal.returns-clause-each
returns-clause-each c = loose-exactly

pub returns-clause-ascending : goal.returns-clause-ascending
returns-clause-ascending c = loose-rise
