use Rattle.std.proofs.Common.{refl}
use Rattle.script_words.proofs.examples.table.numbers_of_words.Goals as goal

pub returns-clause-no_row : goal.returns-clause-no_row
returns-clause-no_row c = refl

pub returns-clause-one_row : goal.returns-clause-one_row
returns-clause-one_row c = refl

pub returns-clause-most_rows : goal.returns-clause-most_rows
returns-clause-most_rows c = refl

pub returns-clause-too_many_rows : goal.returns-clause-too_many_rows
returns-clause-too_many_rows c = refl

pub returns-clause-none : goal.returns-clause-none
returns-clause-none c = refl

pub returns-clause-fewer : goal.returns-clause-fewer
returns-clause-fewer c = refl

pub returns-clause-as_many : goal.returns-clause-as_many
returns-clause-as_many c = refl

pub returns-clause-more : goal.returns-clause-more
returns-clause-more c = refl
