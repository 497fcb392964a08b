use Rattle.law_updates.proofs.BootRowLemmas.{boot-listed, boots-raise}
use Rattle.law_updates.proofs.laws.boots_raise_rows_alone.Goals as goal

pub returns-clause-listed : goal.returns-clause-listed
returns-clause-listed k = λ c cpu row raised. boot-listed c cpu row raised

pub returns-clause-raises : goal.returns-clause-raises
returns-clause-raises k = λ c x y cpu events m left. boots-raise c cpu events m x y left
