use Rattle.svg_marks.proofs.PictureLemmas.{picture-reads, picture-times}
use Rattle.svg_marks.proofs.laws.marks_are_those_of_the_data.Goals as goal

pub returns-clause-words : goal.returns-clause-words
returns-clause-words c = picture-reads

pub returns-clause-count : goal.returns-clause-count
returns-clause-count c = picture-times
