use Rattle.std.proofs.Common.{◌≡◌, ◌≤◌, ◌+◌, ◌-◌, ◌*◌, ◌++◌, length}
use Rattle.boot_map.specs.Windows.{part_windows}
use Rattle.boot_map.proofs.windows.add_parts.Given as goal

abbrev pub invariant-loop-count : goal.invariant-loop-count
invariant-loop-count l = record {
  room : length l.windows.items ≤ 2 + 2 * l.count;
  left : l.windows.items ++ part_windows l.parts l.end (length l.parts - l.count) l.at
      ≡ l.fn.windows.items ++ part_windows l.parts l.end (length l.parts) l.first;
}
