use Rattle.std.proofs.Common.{refl}
use Rattle.law_scripts.proofs.LineTextLemmas.{line-read, noted-read}
use Rattle.law_scripts.proofs.laws.lines_are_read_back.Goals as goal

pub returns-clause-line : goal.returns-clause-line
returns-clause-line c = line-read

pub returns-clause-noted : goal.returns-clause-noted
returns-clause-noted c = noted-read

pub returns-clause-comment : goal.returns-clause-comment
returns-clause-comment c = λ note. refl
