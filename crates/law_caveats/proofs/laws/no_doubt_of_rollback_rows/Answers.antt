use Rattle.law_caveats.proofs.UnreadLaws.{unread-doubt, unread-exactly}
use Rattle.law_caveats.proofs.laws.no_doubt_of_rollback_rows.Goals as goal

pub returns-clause-same : goal.returns-clause-same
returns-clause-same c = unread-doubt

pub returns-clause-exactly : goal.returns-clause-exactly
returns-clause-exactly c = unread-exactly
