use Rattle.svg_map.proofs.MapTextLemmas.{map-written}
use Rattle.svg_map.proofs.laws.pictures_of_texts_are_ascii.Goals as goal

pub returns : goal.returns
returns c = map-written
