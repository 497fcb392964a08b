use Rattle.std.proofs.Common.{◌≡◌, ◌+◌, ◌*◌, ◌≤◌, length, take}
use Rattle.boot_caveats.specs.ImageCaveats.{read_windows}
use Rattle.boot_caveats.proofs.images.read_windows.Given as goal

abbrev pub invariant-loop-look : goal.invariant-loop-look
invariant-loop-look l = record {
  value : l.windows.items ≡ read_windows l.size (take l.look-index l.looks);
  most : length l.windows.items ≤ 2 + 2 * l.look-index;
}
