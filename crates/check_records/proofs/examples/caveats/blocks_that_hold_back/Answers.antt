-- By computing.
use Rattle.std.proofs.Common.{refl}
use Rattle.check_records.proofs.examples.caveats.blocks_that_hold_back.Goals as goal

pub returns-clause-none : goal.returns-clause-none
returns-clause-none c = refl

pub returns-clause-programmed : goal.returns-clause-programmed
returns-clause-programmed c = refl

pub returns-clause-erased : goal.returns-clause-erased
returns-clause-erased c = refl

pub returns-clause-held : goal.returns-clause-held
returns-clause-held c = refl

pub returns-clause-beside : goal.returns-clause-beside
returns-clause-beside c = refl

pub returns-clause-raised : goal.returns-clause-raised
returns-clause-raised c = refl
