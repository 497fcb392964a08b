use Rattle.std.proofs.Common.{◌≡◌, ◌*◌, ◌≤◌, ◌++◌, drop, length}
use Rattle.std.specs.List.{filter_map}
use Rattle.sector_pool.specs.Keeping.{KeepsOut}
use Rattle.image_check.specs.Digests.{Knows}
use Rattle.boot_caveats.specs.ProcessorCaveats.{looked_members, other_window, other_windows}
use Rattle.boot_caveats.proofs.processors.other_windows.Given as goal

abbrev pub invariant-loop-look : goal.invariant-loop-look
invariant-loop-look g l = record {
  kept : KeepsOut l.fn.pool l.pool;
  knows : Knows l.digests (g.B.Board.state l.board).content;
  rest : l.windows.items ++ filter_map (other_window (g.B.Board.state l.board).content l.cpu)
      (looked_members (drop l.look-index l.looks) l.member)
      ≡ other_windows (g.B.Board.state l.board).content l.cpu (looked_members l.looks l.fn.updated);
  most : length l.windows.items ≤ 2 * l.look-index;
}
