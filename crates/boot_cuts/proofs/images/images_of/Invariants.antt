use Rattle.pico_board.specs.MemBoard.{state_of}
use Rattle.sector_pool.specs.Keeping.{KeepsOut}
use Rattle.sector_pool.specs.Pool.{HasFree}
use Rattle.image_check.specs.Digests.{Knows}
use Rattle.boot_cuts.specs.Standings.{AreStanding}
use Rattle.boot_cuts.proofs.images.images_of.Given as goal

-- those so far are right, what is remembered of digests is true, and the pool still has a free
-- sector
abbrev pub invariant-loop-unit : goal.invariant-loop-unit
invariant-loop-unit l = record {
  known : AreStanding (state_of l.board).content l.cpu l.known.items;
  knows : Knows l.digests (state_of l.board).content;
  free : HasFree l.pool;
  kept : KeepsOut l.fn.pool l.pool;
}
