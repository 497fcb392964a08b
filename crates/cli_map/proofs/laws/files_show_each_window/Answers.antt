use Rattle.cli_map.proofs.FileLemmas.{join-times, row-texts, row-times, window-times}
use Rattle.cli_map.proofs.laws.files_show_each_window.Goals as goal

pub returns-clause-windows : goal.returns-clause-windows
returns-clause-windows c = window-times

pub returns-clause-rows : goal.returns-clause-rows
returns-clause-rows c = row-times

pub returns-clause-joins : goal.returns-clause-joins
returns-clause-joins c = join-times

pub returns-clause-texts : goal.returns-clause-texts
returns-clause-texts c = row-texts
