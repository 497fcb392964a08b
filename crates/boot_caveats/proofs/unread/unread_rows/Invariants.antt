use Rattle.std.proofs.Common.{◌≡◌, map}
use Rattle.std.specs.List.{range_with_len}
use Rattle.boot_caveats.specs.Unread.{unread_row}
use Rattle.boot_caveats.proofs.unread.unread_rows.Given as goal

-- the rows so far
abbrev pub invariant-loop-row : goal.invariant-loop-row
invariant-loop-row g l =
    l.rows.items ≡ map (unread_row (g.B.Board.state l.board).content.otp) (range_with_len 0 l.row)
