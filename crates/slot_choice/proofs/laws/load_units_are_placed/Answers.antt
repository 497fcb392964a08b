-- By the lemmas on the places of units.
use Rattle.slot_choice.proofs.PlaceLemmas.{load_members_placed, owned_unit_apart}
use Rattle.slot_choice.proofs.laws.load_units_are_placed.Goals as goal

pub returns-clause-placed : goal.returns-clause-placed
returns-clause-placed c = load_members_placed

pub returns-clause-owned : goal.returns-clause-owned
returns-clause-owned c = owned_unit_apart
