-- What comes before the row is put.
use Rattle.std.proofs.Common.{ℕ, List, ◌++◌}
use Rattle.std.specs.Prelude.{slice_range}
use Rattle.block_codec.specs.Words.{bytes_of}
use Rattle.picoboot_cmd.proofs.working.put_rows.Given as goal

abbrev pub invariant-loop-row : goal.invariant-loop-row
invariant-loop-row g l =
    (before : List ℕ) → g.R.Reply.stands_for l.fn.reply before
    → g.R.Reply.stands_for l.reply
    (before ++ bytes_of (slice_range (g.B.Board.state l.board).content.otp l.first l.row))
