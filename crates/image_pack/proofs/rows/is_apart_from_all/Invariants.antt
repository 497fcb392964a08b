-- So many of the others share no row.
use Rattle.std.proofs.Common.{take, All}
use Rattle.otp_roll.specs.Rows.{AreRowsApart}
use Rattle.image_pack.proofs.rows.is_apart_from_all.Given as goal

abbrev pub invariant-loop-other : goal.invariant-loop-other
invariant-loop-other l = All (AreRowsApart l.row) (take l.other-index l.others)
