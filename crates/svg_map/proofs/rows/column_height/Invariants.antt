use Rattle.std.proofs.Common.{◌≡◌, ◌+◌, ◌≤◌, ◌^◌, drop, map}
use Rattle.svg_map.specs.Maps.{bar_from, rows_height}
use Rattle.svg_map.proofs.rows.column_height.Given as goal

abbrev pub invariant-loop-bar : goal.invariant-loop-bar
invariant-loop-bar l = record {
  exact : l.height + rows_height (map bar_from (drop l.bar-index l.bars)) ≡ rows_height (map bar_from l.bars);
  most : l.height ≤ 2 ^ 30;
}
