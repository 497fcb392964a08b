use Rattle.std.proofs.Common.{◌≡◌, take, false}
use Rattle.std.specs.List.{list_any}
use Rattle.part_table.specs.Links.{is_second_of}
use Rattle.part_table.proofs.faults.has_second.Given as goal

abbrev pub invariant-loop-part : goal.invariant-loop-part
invariant-loop-part l = list_any (is_second_of l.value) (take l.part-index l.parts) ≡ false
