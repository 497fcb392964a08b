use Rattle.std.proofs.Common.{◌≡◌, map, take}
use Rattle.part_table.specs.Windows.{part_window}
use Rattle.cli_boot.proofs.boards.part_windows.Given as goal

abbrev pub invariant-loop-part : goal.invariant-loop-part
invariant-loop-part l = l.windows.items ≡ map part_window (take l.part-index l.parts)
