use Rattle.std.proofs.Common.{◌≡◌, ◌≤◌, false, drop, length}
use Rattle.pico_board.specs.MemBoard.{state_of}
use Rattle.check_data.specs.Early.{has_other_loose}
use Rattle.check_data.proofs.loose.has_other_last.Given as goal

-- none of those at the end differs
abbrev pub invariant-loop-left : goal.invariant-loop-left
invariant-loop-left l = record {
  few : l.left ≤ length l.loose;
  none : has_other_loose (state_of l.one).content (state_of l.two).content (drop l.left l.loose) ≡ false;
}

abbrev pub decreases-loop-left : goal.decreases-loop-left
decreases-loop-left l = l.left
