use Rattle.std.proofs.Common.{◌≡◌, ◌≤◌, ◌^◌, ◌++◌, drop, map}
use Rattle.std.specs.List.{flat_map}
use Rattle.svg_marks.specs.Marks.{mark_text}
use Rattle.svg_map.specs.Maps.{bar_from, rows_from}
use Rattle.svg_map.proofs.rows.push_rows.Given as goal

abbrev pub invariant-loop-number : goal.invariant-loop-number
invariant-loop-number l = record {
  exact : l.out.items
      ++ flat_map mark_text (rows_from l.flash l.high l.number l.top (map bar_from (drop l.number l.bars)))
      ≡ l.initial.out.items ++ flat_map mark_text (rows_from l.flash l.high 0 24 (map bar_from l.bars));
  most : l.top ≤ 2 ^ 30;
}
