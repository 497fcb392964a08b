use Rattle.std.proofs.Common.{◌≡◌, ◌++◌, take}
use Rattle.std.specs.List.{filter_map}
use Rattle.boot_caveats.specs.ImageCaveats.{late_first}
use Rattle.boot_caveats.proofs.images.add_late.Given as goal

abbrev pub invariant-loop-window : goal.invariant-loop-window
invariant-loop-window g l =
    l.list.items ≡ l.initial.list.items
    ++ filter_map (late_first (g.B.Board.state l.board).content) (take l.window-index l.windows)
