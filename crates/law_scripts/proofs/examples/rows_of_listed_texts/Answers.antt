use Rattle.std.proofs.Common.{refl}
use Rattle.law_scripts.proofs.examples.rows_of_listed_texts.Goals as goal

pub returns-clause-in_words : goal.returns-clause-in_words
returns-clause-in_words c = refl

pub returns-clause-listed : goal.returns-clause-listed
returns-clause-listed c = refl
