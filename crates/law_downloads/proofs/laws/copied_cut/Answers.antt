use Rattle.law_downloads.proofs.DoneAgainLemmas.{cut-decision, cut-session}
use Rattle.law_downloads.proofs.laws.copied_cut.Goals as goal

pub returns-clause-session : goal.returns-clause-session
returns-clause-session c = λ content cpu family target image d e lost.
    cut-session content cpu family target image d lost e

pub returns-clause-decision : goal.returns-clause-decision
returns-clause-decision c = λ content cpu family target image d e lost.
    cut-decision content cpu family target image d lost e
