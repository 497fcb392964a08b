use Rattle.law_updates.proofs.TargetLemmas.{commands-same, first-same}
use Rattle.law_updates.proofs.laws.targets_that_are_the_same.Goals as goal

pub returns-clause-commands : goal.returns-clause-commands
returns-clause-commands k = λ c d cpu host events none. commands-same c d cpu host events none

pub returns-clause-download : goal.returns-clause-download
returns-clause-download k = λ c d cpu family host events once same. first-same c d cpu family events host same once
