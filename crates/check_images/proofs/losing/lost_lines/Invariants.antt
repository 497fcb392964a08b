use Rattle.std.proofs.Common.{◌≡◌, take}
use Rattle.std.specs.List.{filter_map}
use Rattle.pico_board.specs.MemBoard.{state_of}
use Rattle.sector_pool.specs.Keeping.{KeepsOut}
use Rattle.sector_pool.specs.Pool.{HasFree}
use Rattle.check_images.specs.Losing.{lost_line}
use Rattle.check_images.proofs.losing.lost_lines.Given as goal

-- the lines so far are those of the windows so far, and the pool still has a free sector
abbrev pub invariant-loop-window : goal.invariant-loop-window
invariant-loop-window l = record {
  lines : l.lines.items ≡ filter_map
      (lost_line (state_of l.start).content l.members (state_of l.after).content l.cpu l.decision)
      (take l.window-index l.windows);
  free : HasFree l.pool;
  kept : KeepsOut l.fn.pool l.pool;
}
