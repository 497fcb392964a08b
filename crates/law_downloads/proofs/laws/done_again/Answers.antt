use Rattle.law_downloads.proofs.DoneAgainLemmas.{lost-again, lost-download, lost-home, lost-target}
use Rattle.law_downloads.proofs.DownloadLemmas.{session-holds}
use Rattle.law_downloads.proofs.laws.done_again.Goals as goal

pub returns-clause-target : goal.returns-clause-target
returns-clause-target c = lost-target

pub returns-clause-again : goal.returns-clause-again
returns-clause-again c = lost-download

pub returns-clause-pair : goal.returns-clause-pair
returns-clause-pair c = lost-home

pub returns-clause-holds : goal.returns-clause-holds
returns-clause-holds c = λ content cpu family target image choice d is.
    session-holds d cpu family target image (lost-download content cpu family target image choice d is)

pub returns-clause-often : goal.returns-clause-often
returns-clause-often c = lost-again
