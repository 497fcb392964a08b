-- By computing.
use Rattle.std.proofs.Common.{refl}
use Rattle.check_data.proofs.examples.windows_that_are_written.Goals as goal

pub returns-clause-erased : goal.returns-clause-erased
returns-clause-erased c = refl

pub returns-clause-programmed : goal.returns-clause-programmed
returns-clause-programmed c = refl

pub returns-clause-behind : goal.returns-clause-behind
returns-clause-behind c = refl

pub returns-clause-before : goal.returns-clause-before
returns-clause-before c = refl

pub returns-clause-raised : goal.returns-clause-raised
returns-clause-raised c = refl

pub returns-clause-torn : goal.returns-clause-torn
returns-clause-torn c = refl

pub returns-clause-torn_before : goal.returns-clause-torn_before
returns-clause-torn_before c = refl

pub returns-clause-mended : goal.returns-clause-mended
returns-clause-mended c = refl

pub returns-clause-torn_elsewhere : goal.returns-clause-torn_elsewhere
returns-clause-torn_elsewhere c = refl
