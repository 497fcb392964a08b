use Rattle.load_map.proofs.EntryLaws.{runtime-right, right-loaded}
use Rattle.load_map.proofs.laws.where_a_load_is_right.Goals as goal

pub returns : goal.returns
returns c = λ s load. (runtime-right s load, right-loaded s load)
