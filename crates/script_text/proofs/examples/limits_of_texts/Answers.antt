use Rattle.std.proofs.Common.{refl}
use Rattle.script_text.proofs.examples.limits_of_texts.Goals as goal

pub returns-clause-text : goal.returns-clause-text
returns-clause-text c = refl

pub returns-clause-records : goal.returns-clause-records
returns-clause-records c = refl

pub returns-clause-end_alone : goal.returns-clause-end_alone
returns-clause-end_alone c = refl
