use Rattle.std.proofs.Common.{◌≡◌, map, take}
use Rattle.part_table.specs.Windows.{partition_window}
use Rattle.boot_rules.proofs.data.windows_of.Given as goal

abbrev pub invariant-loop-part : goal.invariant-loop-part
invariant-loop-part l = l.windows.items ≡ map (partition_window l.table) (take l.part-index l.parts)
