use Rattle.std.proofs.Common.{refl}
use Rattle.law_scripts.proofs.TokenLemmas.{has-parts, told-whatever}
use Rattle.law_scripts.proofs.laws.a_token_counts_up_to_the_next_command.Goals as goal

pub returns-clause-gives : goal.returns-clause-gives
returns-clause-gives c = told-whatever

pub returns-clause-behind : goal.returns-clause-behind
returns-clause-behind c = λ next other command payload. refl

pub returns-clause-listed : goal.returns-clause-listed
returns-clause-listed c = has-parts
