use Rattle.check_records.proofs.HoldLemmas.{first-holds, later-holds}
use Rattle.check_records.proofs.laws.a_gated_download_begins_by_holding_back.Goals as goal

pub returns-clause-first : goal.returns-clause-first
returns-clause-first c = first-holds

pub returns-clause-later : goal.returns-clause-later
returns-clause-later c = later-holds
