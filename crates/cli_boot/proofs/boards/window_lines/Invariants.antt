use Rattle.std.proofs.Common.{◌≡◌, take, string_bytes}
use Rattle.std.specs.List.{flat_map}
use Rattle.sector_pool.specs.Pool.{HasFree}
use Rattle.cli_boot.specs.Works.{window_line}
use Rattle.cli_boot.proofs.boards.window_lines.Given as goal

abbrev pub invariant-loop-window : goal.invariant-loop-window
invariant-loop-window g l = record {
  free : HasFree l.pool;
  lines : string_bytes l.text
      ≡ flat_map (window_line (g.B.Board.state l.board).content l.cpu) (take l.window-index l.windows);
}
