use Rattle.boot_rules.proofs.AccidentalImageLemmas.{empty-free, erased-free, finished-free, former-free, free-exactly}
use Rattle.boot_rules.proofs.laws.accidents.which_contents_have_no_accidental_image.Goals as goal

pub returns-clause-exactly : goal.returns-clause-exactly
returns-clause-exactly c = free-exactly

pub returns-clause-empty : goal.returns-clause-empty
returns-clause-empty c = empty-free

pub returns-clause-erased : goal.returns-clause-erased
returns-clause-erased c = erased-free

pub returns-clause-former : goal.returns-clause-former
returns-clause-former c = former-free

pub returns-clause-finished : goal.returns-clause-finished
returns-clause-finished c = finished-free
