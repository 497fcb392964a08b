use Rattle.cli_tools.proofs.SealLemmas.{fault-first, first-fault, none-sealed, sealed-none}
use Rattle.cli_tools.proofs.laws.sealings_are_judged.Goals as goal

pub returns-clause-error : goal.returns-clause-error
returns-clause-error c = λ binary spec error. (first-fault binary spec error, fault-first binary spec error)

pub returns-clause-none : goal.returns-clause-none
returns-clause-none c = λ binary spec. (none-sealed binary spec, sealed-none binary spec)
