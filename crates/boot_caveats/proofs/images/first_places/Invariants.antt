use Rattle.std.proofs.Common.{◌≡◌, ◌≤◌, ◌++◌, [], drop, length}
use Rattle.boot_caveats.specs.ImageCaveats.{first_places}
use Rattle.boot_caveats.proofs.images.first_places.Given as goal

abbrev pub invariant-loop-window : goal.invariant-loop-window
invariant-loop-window l = record {
  rest : l.places.items ++ first_places l.places.items (drop l.window-index l.windows) ≡ first_places [] l.windows;
  most : length l.places.items ≤ l.window-index;
}
