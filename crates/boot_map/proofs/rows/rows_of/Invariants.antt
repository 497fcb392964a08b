use Rattle.std.proofs.Common.{◌≡◌, ◌≤◌, length, map, option_map, take}
use Rattle.sector_pool.specs.Keeping.{KeepsOut}
use Rattle.boot_map.specs.Maps.{row_of}
use Rattle.boot_map.proofs.rows.rows_of.Given as goal

abbrev pub invariant-loop-window : goal.invariant-loop-window
invariant-loop-window g l = record {
  kept : KeepsOut l.fn.pool l.pool;
  few : length l.rows.items ≤ l.window-index;
  so_far : l.rows.items
      ≡ map (row_of (g.B.Board.state l.board).content l.cpu (option_map (λ t. t.now) l.table) l.decision)
      (take l.window-index l.windows);
}
