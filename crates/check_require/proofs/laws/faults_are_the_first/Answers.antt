use Rattle.check_require.proofs.RuleLemmas.{require_judged}
use Rattle.check_require.proofs.laws.faults_are_the_first.Goals as goal

pub returns-clause-first : goal.returns-clause-first
returns-clause-first c = λ d. (require_judged d).first

pub returns-clause-not_json : goal.returns-clause-not_json
returns-clause-not_json c = λ d. (require_judged d).plain.json

pub returns-clause-memory : goal.returns-clause-memory
returns-clause-memory c = λ d. (require_judged d).plain.memory
