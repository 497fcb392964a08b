use Rattle.std.proofs.Common.{refl}
use Rattle.law_downloads.proofs.CopyLemmas.{script-read}
use Rattle.law_downloads.proofs.DownloadLemmas.{is-placed, session-gated, session-holds, session-placed}
use Rattle.law_downloads.proofs.laws.copied_download.Goals as goal

pub returns-clause-placed : goal.returns-clause-placed
returns-clause-placed c = session-placed

pub returns-clause-gated : goal.returns-clause-gated
returns-clause-gated c = session-gated

pub returns-clause-holds : goal.returns-clause-holds
returns-clause-holds c = session-holds

pub returns-clause-script : goal.returns-clause-script
returns-clause-script c = λ out file. refl

pub returns-clause-read : goal.returns-clause-read
returns-clause-read c = λ content cpu family target image is.
    script-read content cpu family target image is (is-placed content cpu family target image is)
