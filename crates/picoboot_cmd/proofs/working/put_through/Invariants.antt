-- What comes before the place is put.
use Rattle.std.proofs.Common.{ℕ, List, ◌+◌, ◌-◌, ◌<◌, ◌≤◌, ◌++◌, length}
use Rattle.std.specs.Prelude.{slice_range}
use Rattle.picoboot_cmd.proofs.working.put_through.Given as goal

abbrev pub invariant-loop-done : goal.invariant-loop-done
invariant-loop-done g l = record {
  some : 0 < length l.piece;
  few : length l.piece ≤ 4096;
  inside : l.done ≤ l.size;
  put : (before : List ℕ) → g.R.Reply.stands_for l.fn.reply before
      → g.R.Reply.stands_for l.reply
      (before ++ slice_range (g.B.Board.state l.board).content.flash l.at (l.at + l.done));
}

abbrev pub decreases-loop-done : goal.decreases-loop-done
decreases-loop-done g l = l.size - l.done
