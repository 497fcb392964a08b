-- So many rows are in range.
use Rattle.std.proofs.Common.{◌≤◌, take, All}
use Rattle.otp_roll.specs.declared.rows.TheConstants.{FIRST_ROW, LAST_ROW}
use Rattle.image_pack.proofs.rows.are_in_range.Given as goal

abbrev pub invariant-loop-row : goal.invariant-loop-row
invariant-loop-row l = All (λ r. (FIRST_ROW ≤ r) × (r ≤ LAST_ROW)) (take l.row-index l.rows)
