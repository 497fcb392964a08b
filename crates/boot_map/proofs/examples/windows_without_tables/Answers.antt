-- By computing.
use Rattle.std.proofs.Common.{refl}
use Rattle.boot_map.proofs.examples.windows_without_tables.Goals as goal

pub returns-clause-whole : goal.returns-clause-whole
returns-clause-whole c = refl

pub returns-clause-least : goal.returns-clause-least
returns-clause-least c = refl

pub returns-clause-above : goal.returns-clause-above
returns-clause-above c = refl

pub returns-clause-slots : goal.returns-clause-slots
returns-clause-slots c = refl

pub returns-clause-filled : goal.returns-clause-filled
returns-clause-filled c = refl
