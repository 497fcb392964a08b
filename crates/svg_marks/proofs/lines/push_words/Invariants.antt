use Rattle.std.proofs.Common.{◌≡◌, ◌≤◌, ◌++◌, drop}
use Rattle.svg_marks.specs.Breaks.{broken_lines_from, broken_lines}
use Rattle.svg_marks.specs.Marks.{lines_text}
use Rattle.svg_marks.proofs.BreakLemmas.{rest_text}
use Rattle.svg_marks.proofs.lines.push_words.Given as goal

abbrev pub invariant-loop-number : goal.invariant-loop-number
invariant-loop-number l = record {
  exact : l.out.items ++ rest_text l.x l.opened (broken_lines_from l.column l.blank (drop l.number l.bytes))
      ≡ l.initial.out.items ++ lines_text l.x (broken_lines l.bytes);
  column : l.column ≤ 81;
}
