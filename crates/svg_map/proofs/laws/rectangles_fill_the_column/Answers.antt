use Rattle.svg_map.proofs.PlaceLemmas.{column-fills}
use Rattle.svg_map.proofs.laws.rectangles_fill_the_column.Goals as goal

pub returns : goal.returns
returns c = column-fills
