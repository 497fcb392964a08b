use Rattle.std.proofs.Common.{◌≡◌, ◌++◌, take}
use Rattle.std.specs.List.{flat_map}
use Rattle.boot_caveats.specs.ImageCaveats.{look_may_start}
use Rattle.boot_caveats.proofs.images.add_may_starts.Given as goal

abbrev pub invariant-loop-look : goal.invariant-loop-look
invariant-loop-look l =
    l.list.items ≡ l.initial.list.items ++ flat_map (look_may_start l.unread) (take l.look-index l.looks)
