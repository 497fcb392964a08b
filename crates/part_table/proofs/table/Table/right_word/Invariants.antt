use Rattle.std.proofs.Common.{◌≡◌, find, take, None}
use Rattle.part_table.specs.Windows.{has_sector}
use Rattle.part_table.proofs.table.Table.right_word.Given as goal

abbrev pub invariant-loop-part : goal.invariant-loop-part
invariant-loop-part l = find (has_sector l.sector) (take l.part-index l.self.parts.items) ≡ None
