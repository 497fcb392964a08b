use Rattle.law_updates.proofs.BootLemmas.{boots-again, bytes-on, nothing-more, starts-on}
use Rattle.law_updates.proofs.laws.a_start_goes_on.Goals as goal

pub returns-clause-starts : goal.returns-clause-starts
returns-clause-starts c = starts-on

pub returns-clause-bytes : goal.returns-clause-bytes
returns-clause-bytes c = bytes-on

pub returns-clause-settled : goal.returns-clause-settled
returns-clause-settled c = nothing-more

pub returns-clause-content : goal.returns-clause-content
returns-clause-content c = boots-again
