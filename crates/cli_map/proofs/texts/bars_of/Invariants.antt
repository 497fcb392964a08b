use Rattle.std.proofs.Common.{◌≡◌, map, take}
use Rattle.svg_map.specs.Maps.{bar_from}
use Rattle.cli_map.specs.Texts.{bar_of}
use Rattle.cli_map.proofs.texts.bars_of.Given as goal

abbrev pub invariant-loop-row : goal.invariant-loop-row
invariant-loop-row l = map bar_from l.bars.items ≡ map (bar_of l.shown) (take l.row-index l.shown.rows.items)
