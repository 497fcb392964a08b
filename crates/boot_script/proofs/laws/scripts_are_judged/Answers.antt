use Rattle.boot_script.proofs.JudgingLemmas.{script-formed, script-exact, error-told, error-exact}
use Rattle.boot_script.proofs.laws.scripts_are_judged.Goals as goal

pub returns-clause-none : goal.returns-clause-none
returns-clause-none c = λ bytes. (script-formed bytes, script-exact bytes)

pub returns-clause-error : goal.returns-clause-error
returns-clause-error c = λ bytes error. (error-told bytes error, error-exact bytes error)
