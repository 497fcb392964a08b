use Rattle.svg_marks.proofs.TextLemmas.{picture-written}
use Rattle.svg_marks.proofs.laws.pictures_of_texts_are_ascii.Goals as goal

pub returns : goal.returns
returns c = picture-written
