use Rattle.std.proofs.Common.{◌≡◌, ◌++◌, map, take}
use Rattle.std.specs.List.{flat_map}
use Rattle.svg_marks.specs.Marks.{mark_text}
use Rattle.svg_sweep.specs.Charts.{kind_bar}
use Rattle.svg_sweep.proofs.kinds.push_kind_bars.Given as goal

abbrev pub invariant-loop-run : goal.invariant-loop-run
invariant-loop-run l =
    l.out.items ≡ l.initial.out.items
    ++ flat_map mark_text (map (kind_bar l.steps) (take l.run-index l.runs))
