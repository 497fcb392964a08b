use Rattle.std.proofs.Common.{◌≡◌, ◌*◌, ◌≤◌, length, take}
use Rattle.boot_caveats.specs.ImageCaveats.{looked_windows}
use Rattle.boot_caveats.proofs.members.looked_windows.Given as goal

abbrev pub invariant-loop-look : goal.invariant-loop-look
invariant-loop-look l = record {
  value : l.windows.items ≡ looked_windows (take l.look-index l.looks);
  most : length l.windows.items ≤ 2 * l.look-index;
}
