use Rattle.std.proofs.Common.{◌≡◌, ◌++◌, take}
use Rattle.std.specs.List.{filter_map}
use Rattle.boot_caveats.specs.ImageCaveats.{item_order, looked_windows}
use Rattle.boot_caveats.proofs.images.add_item_orders.Given as goal

abbrev pub invariant-loop-look : goal.invariant-loop-look
invariant-loop-look g l =
    l.list.items ≡ l.initial.list.items
    ++ filter_map (item_order (g.B.Board.state l.board).content l.cpu) (looked_windows (take l.look-index l.looks))
