use Rattle.std.proofs.Common.{◌≡◌, take}
use Rattle.pico_board.specs.MemBoard.{state_of}
use Rattle.boot_tape.proofs.copying.rows_of.Given as goal

-- the rows so far are those of the board
abbrev pub invariant-loop-row : goal.invariant-loop-row
invariant-loop-row l = l.rows.items ≡ take l.row (state_of l.board).content.otp
