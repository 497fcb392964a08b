use Rattle.std.proofs.Common.{◌≡◌, ◌++◌, take}
use Rattle.std.specs.List.{filter_map}
use Rattle.boot_caveats.specs.Doubts.{member_doubt}
use Rattle.boot_caveats.proofs.members.add_doubts.Given as goal

abbrev pub invariant-loop-window : goal.invariant-loop-window
invariant-loop-window g l =
    l.list.items ≡ l.initial.list.items
    ++ filter_map (member_doubt (g.B.Board.state l.board).content l.cpu l.doubt) (take l.window-index l.windows)
