use Rattle.std.proofs.Common.{◌≡◌, ◌++◌, drop}
use Rattle.std.specs.List.{flat_map}
use Rattle.svg_marks.specs.Marks.{mark_text}
use Rattle.svg_sweep.specs.Charts.{spans_from}
use Rattle.svg_sweep.proofs.spans.push_spans.Given as goal

abbrev pub invariant-loop-number : goal.invariant-loop-number
invariant-loop-number l =
    l.out.items ++ flat_map mark_text (spans_from l.top l.number (drop l.number l.runs))
    ≡ l.initial.out.items ++ flat_map mark_text (spans_from l.top 0 l.runs)
