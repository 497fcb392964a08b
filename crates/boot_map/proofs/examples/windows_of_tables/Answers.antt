-- By computing.
use Rattle.std.proofs.Common.{refl}
use Rattle.boot_map.proofs.examples.windows_of_tables.Goals as goal

pub returns-clause-mixed : goal.returns-clause-mixed
returns-clause-mixed c = refl

pub returns-clause-sector_left : goal.returns-clause-sector_left
returns-clause-sector_left c = refl

pub returns-clause-lone : goal.returns-clause-lone
returns-clause-lone c = refl

pub returns-clause-none : goal.returns-clause-none
returns-clause-none c = refl

pub returns-clause-filled : goal.returns-clause-filled
returns-clause-filled c = refl
