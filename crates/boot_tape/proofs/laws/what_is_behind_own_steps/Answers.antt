use Rattle.boot_tape.proofs.NoteLemmas.{boot-behind, buy-behind, nothing-behind}
use Rattle.boot_tape.proofs.laws.what_is_behind_own_steps.Goals as goal

pub returns-clause-nothing : goal.returns-clause-nothing
returns-clause-nothing c = nothing-behind

pub returns-clause-boot : goal.returns-clause-boot
returns-clause-boot c = boot-behind

pub returns-clause-buy : goal.returns-clause-buy
returns-clause-buy c = buy-behind
