use Rattle.boot_rules.proofs.SlotLemmas.{has-table, table-has}
use Rattle.boot_rules.proofs.laws.answers_have_the_tables.Goals as goal

pub returns : goal.returns
returns a = λ c number t. (table-has c number t, has-table c number t)
