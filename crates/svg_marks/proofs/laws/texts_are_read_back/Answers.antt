use Rattle.std.proofs.Common.{ap, ◌∙◌, map}
use Rattle.std.specs.List.{flat_map}
use Rattle.svg_marks.specs.Reading.{words_of_mark}
use Rattle.svg_marks.specs.Texts.{unescaped}
use Rattle.svg_marks.proofs.PictureLemmas.{picture-reads}
use Rattle.svg_marks.proofs.TextLemmas.{same-text, text-read, texts-read}
use Rattle.svg_marks.proofs.laws.texts_are_read_back.Goals as goal

pub returns-clause-text : goal.returns-clause-text
returns-clause-text c = text-read

pub returns-clause-same : goal.returns-clause-same
returns-clause-same c = same-text

pub returns-clause-marks : goal.returns-clause-marks
returns-clause-marks c = λ class p.
    ap (λ z. map unescaped z) (picture-reads class p) ∙ texts-read (flat_map (words_of_mark class) p.marks)
