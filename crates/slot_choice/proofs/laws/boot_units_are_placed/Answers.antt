-- By the lemmas on the places of units.
use Rattle.slot_choice.proofs.PlaceLemmas.{apart_from_slots, boot_members_placed, sound_members_placed, tableless_placed}
use Rattle.slot_choice.proofs.laws.boot_units_are_placed.Goals as goal

pub returns-clause-faultless : goal.returns-clause-faultless
returns-clause-faultless c = boot_members_placed

pub returns-clause-sound : goal.returns-clause-sound
returns-clause-sound c = sound_members_placed

pub returns-clause-tableless : goal.returns-clause-tableless
returns-clause-tableless c = tableless_placed

pub returns-clause-slots : goal.returns-clause-slots
returns-clause-slots c = apart_from_slots
