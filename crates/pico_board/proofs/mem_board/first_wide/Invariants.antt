-- The rows before have 24 bits.
use Rattle.std.proofs.Common.{◌^◌, ◌<◌, All, take}
use Rattle.pico_board.proofs.mem_board.first_wide.Given as goal

abbrev pub invariant-loop-i : goal.invariant-loop-i
invariant-loop-i l = All (λ v. v < 2 ^ 24) (take l.i l.rows)
