use Rattle.load_map.proofs.BlockWordLemmas.{map-parts, map-from-parts}
use Rattle.load_map.proofs.laws.a_load_map_item.Goals as goal

pub returns : goal.returns
returns c = λ b k item at. (map-parts b k item at, map-from-parts b k item at)
