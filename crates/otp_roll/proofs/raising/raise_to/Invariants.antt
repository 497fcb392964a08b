-- Whatever raises the rows from here on raises all of them from the start.
use Rattle.std.proofs.Common.{drop}
use Rattle.otp_roll.proofs.OnTheWayLemmas.{IsOnTheWay}
use Rattle.otp_roll.proofs.raising.raise_to.Given as goal

abbrev pub invariant-loop-row : goal.invariant-loop-row
invariant-loop-row g l =
    IsOnTheWay g.B.Board.state g.B.Board.history l.fn.board l.rows.items l.version l.wanted
    (drop l.row-index l.rows.items) l.board
