use Rattle.svg_map.proofs.MapLemmas.{long-joins, long-windows}
use Rattle.svg_map.proofs.laws.each_window_has_its_marks.Goals as goal

pub returns-clause-windows : goal.returns-clause-windows
returns-clause-windows c = long-windows

pub returns-clause-rows : goal.returns-clause-rows
returns-clause-rows c = long-windows

pub returns-clause-joins : goal.returns-clause-joins
returns-clause-joins c = long-joins
