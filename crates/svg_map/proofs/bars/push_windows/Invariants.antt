use Rattle.std.proofs.Common.{◌≡◌, ◌++◌, drop, map}
use Rattle.std.specs.List.{flat_map}
use Rattle.svg_marks.specs.Marks.{mark_text}
use Rattle.svg_map.specs.Maps.{bar_from, windows_from}
use Rattle.svg_map.proofs.bars.push_windows.Given as goal

abbrev pub invariant-loop-number : goal.invariant-loop-number
invariant-loop-number l =
    l.out.items ++ flat_map mark_text (windows_from l.number (map bar_from (drop l.number l.bars)))
    ≡ l.initial.out.items ++ flat_map mark_text (windows_from 0 (map bar_from l.bars))
