-- By the tables of both slots.
use Rattle.boot_rules.proofs.TableRuleLemmas.{no-table-words, table-words}
use Rattle.boot_rules.proofs.laws.a_table_is_that_of_a_slot.Goals as goal

pub returns-clause-some : goal.returns-clause-some
returns-clause-some c = table-words

pub returns-clause-none : goal.returns-clause-none
returns-clause-none c = no-table-words
