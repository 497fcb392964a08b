use Rattle.std.proofs.Common.{take}
use Rattle.pico_board.specs.MemBoard.{state_of}
use Rattle.sector_pool.specs.Keeping.{KeepsOut}
use Rattle.sector_pool.specs.Pool.{HasFree}
use Rattle.boot_tape.specs.Moving.{moves_from}
use Rattle.check_images.specs.Lines.{AreLinesOf}
use Rattle.check_images.specs.Written.{IsWritten}
use Rattle.check_images.proofs.written.written_lines.Given as goal

-- the lines so far are those of the windows so far, and the pool still has a free sector
abbrev pub invariant-loop-window : goal.invariant-loop-window
invariant-loop-window l = record {
  lines : AreLinesOf (IsWritten (state_of l.end).content l.cpu (moves_from l.moves) l.doers)
      (take l.window-index l.members) l.lines.items;
  free : HasFree l.pool;
  kept : KeepsOut l.fn.pool l.pool;
}
