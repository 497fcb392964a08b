use Rattle.law_scripts.proofs.BackLemmas.{one-line}
use Rattle.law_scripts.proofs.LineOfLemmas.{line-says}
use Rattle.law_scripts.proofs.laws.events_are_read_back.Goals as goal

pub returns-clause-says : goal.returns-clause-says
returns-clause-says c = λ next e event. (line-says next e event).is

pub returns-clause-listed : goal.returns-clause-listed
returns-clause-listed c = λ next e event. (line-says next e event).listed

pub returns-clause-gives : goal.returns-clause-gives
returns-clause-gives c = λ next e image event. (line-says next e event).gives image

pub returns-clause-one : goal.returns-clause-one
returns-clause-one c = one-line
