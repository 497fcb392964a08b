use Rattle.boot_machine.proofs.MoveTableLemmas.{table-kept, table-reset, table-power}
use Rattle.boot_machine.proofs.laws.run.the_table_is_kept.Goals as goal

pub returns-clause-kept : goal.returns-clause-kept
returns-clause-kept c = table-kept

pub returns-clause-reset : goal.returns-clause-reset
returns-clause-reset c = table-reset

pub returns-clause-power : goal.returns-clause-power
returns-clause-power c = table-power
