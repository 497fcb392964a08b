use Rattle.std.proofs.Common.{◌≡◌, take}
use Rattle.std.specs.Prelude.{map}
use Rattle.pico_board.specs.MemBoard.{state_of}
use Rattle.check_counts.specs.Facts.{is_on_other_data}
use Rattle.check_counts.specs.Judging.{sides_by}
use Rattle.check_counts.proofs.judging.other_data_on.Given as goal

abbrev pub invariant-loop-window : goal.invariant-loop-window
invariant-loop-window l =
    l.each.items ≡ map (λ w. is_on_other_data (sides_by l.counting) w (state_of l.board).content)
    (take l.window-index l.fn.counting.windows.now)
