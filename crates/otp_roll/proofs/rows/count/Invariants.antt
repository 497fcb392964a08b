-- What is counted so far is the count of the rows so far.
use Rattle.std.proofs.Common.{◌≡◌, ◌*◌, ◌≤◌, take}
use Rattle.otp_roll.specs.Rows.{count}
use Rattle.otp_roll.proofs.rows.count.Given as goal

abbrev pub invariant-loop-row : goal.invariant-loop-row
invariant-loop-row g l = record {
  so_far : l.raised ≡ count (g.B.Board.state l.board).content.otp (take l.row-index l.rows.items);
  most : l.raised ≤ 24 * l.row-index;
}
