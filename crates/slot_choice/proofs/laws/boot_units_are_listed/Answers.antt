-- By the lemmas on boot units.
use Rattle.slot_choice.proofs.PlaceLemmas.{unit_at, unit_listed, units_ordered}
use Rattle.slot_choice.proofs.laws.boot_units_are_listed.Goals as goal

pub returns-clause-listed : goal.returns-clause-listed
returns-clause-listed c = unit_listed

pub returns-clause-whole : goal.returns-clause-whole
returns-clause-whole c = unit_at

pub returns-clause-ordered : goal.returns-clause-ordered
returns-clause-ordered c = units_ordered
