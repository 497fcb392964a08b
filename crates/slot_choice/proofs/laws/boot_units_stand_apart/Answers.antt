-- By the lemmas on the places of units.
use Rattle.slot_choice.proofs.PlaceLemmas.{boot_pair_apart, boot_units_apart, tableless_apart}
use Rattle.slot_choice.proofs.laws.boot_units_stand_apart.Goals as goal

pub returns-clause-units : goal.returns-clause-units
returns-clause-units c = boot_units_apart

pub returns-clause-pair : goal.returns-clause-pair
returns-clause-pair c = boot_pair_apart

pub returns-clause-slots : goal.returns-clause-slots
returns-clause-slots c = tableless_apart
