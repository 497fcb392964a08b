use Rattle.std.proofs.Common.{◌≡◌, ◌≤◌, ◌+◌, drop, length}
use Rattle.svg_marks.specs.Breaks.{line_count, broken_lines_from}
use Rattle.svg_marks.proofs.breaks.line_count.Given as goal

abbrev pub invariant-loop-number : goal.invariant-loop-number
invariant-loop-number l = record {
  exact : l.count + length (broken_lines_from l.column l.blank (drop l.number l.bytes)) ≡ 1 + line_count l.bytes;
  column : l.column ≤ 81;
  most : l.count ≤ l.number + 1;
}
