use Rattle.law_caveats.proofs.SlotLaws.{slots-before-doubt}
use Rattle.law_caveats.proofs.laws.no_doubt_of_slots_beside_a_table.Goals as goal

pub returns : goal.returns
returns c = slots-before-doubt
