use Rattle.std.proofs.Common.{◌≡◌, take, false}
use Rattle.std.specs.List.{list_any}
use Rattle.image_def.specs.Rows.{is_near}
use Rattle.image_def.proofs.rows.is_near_one.Given as goal

abbrev pub invariant-loop-other : goal.invariant-loop-other
invariant-loop-other l = list_any (is_near l.row) (take l.other-index l.rows) ≡ false
