use Rattle.script_text.proofs.MeaningLemmas.{text-means, text-read}
use Rattle.script_text.proofs.laws.texts_are_read.Goals as goal

pub returns : goal.returns
returns c = λ image text es. (text-means image text es, text-read image text es)
