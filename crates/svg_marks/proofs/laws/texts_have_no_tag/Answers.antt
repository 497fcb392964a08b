use Rattle.svg_marks.proofs.FreeLemmas.{escaped-less, escaped-more, escaped-quote}
use Rattle.svg_marks.proofs.laws.texts_have_no_tag.Goals as goal

pub returns-clause-less : goal.returns-clause-less
returns-clause-less c = escaped-less

pub returns-clause-more : goal.returns-clause-more
returns-clause-more c = escaped-more

pub returns-clause-quote : goal.returns-clause-quote
returns-clause-quote c = escaped-quote
