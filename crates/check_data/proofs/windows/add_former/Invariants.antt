use Rattle.std.proofs.Common.{◌≡◌, ◌++◌, map, take}
use Rattle.boot_tape.specs.Moving.{moves_from}
use Rattle.check_data.specs.Windows.{former_window}
use Rattle.check_data.proofs.windows.add_former.Given as goal

abbrev pub invariant-loop-window : goal.invariant-loop-window
invariant-loop-window l =
    l.told.items ≡ l.fn.told.items ++ map (former_window (moves_from l.moves) l.others)
    (take l.window-index l.windows)
