use Rattle.std.proofs.Common.{◌≡◌, ◌++◌, take, map}
use Rattle.slot_caveats.specs.declared.caveat.Caveat.TheVariants.{OtherProcessor}
use Rattle.boot_caveats.proofs.processors.add_windows.Given as goal

abbrev pub invariant-loop-window : goal.invariant-loop-window
invariant-loop-window l =
    l.list.items ≡ l.initial.list.items ++ map OtherProcessor (take l.window-index l.windows)
