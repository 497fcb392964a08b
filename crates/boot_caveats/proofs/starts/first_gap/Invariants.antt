use Rattle.std.proofs.Common.{◌≡◌, drop, find}
use Rattle.boot_caveats.specs.StartCaveats.{has_gap}
use Rattle.boot_caveats.proofs.starts.first_gap.Given as goal

abbrev pub invariant-loop-row : goal.invariant-loop-row
invariant-loop-row g l =
    find (has_gap (g.B.Board.state l.board).content.otp) l.rows
    ≡ find (has_gap (g.B.Board.state l.board).content.otp) (drop l.row-index l.rows)
