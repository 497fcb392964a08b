use Rattle.std.proofs.Common.{◌≡◌, take}
use Rattle.pico_board.specs.MemBoard.{state_of}
use Rattle.check_images.proofs.comparing.has_other_rows.Given as goal

-- the rows so far are the same
abbrev pub invariant-loop-row : goal.invariant-loop-row
invariant-loop-row l = take l.row (state_of l.end).content.otp ≡ take l.row (state_of l.start).content.otp
