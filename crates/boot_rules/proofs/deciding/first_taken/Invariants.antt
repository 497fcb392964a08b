use Rattle.std.proofs.Common.{◌≡◌, ◌*◌, drop, None}
use Rattle.sector_pool.specs.Keeping.{KeepsOut}
use Rattle.image_check.specs.Digests.{Knows, MakesAtMost}
use Rattle.boot_rules.specs.Choosing.{images_in, ordered_choice}
use Rattle.boot_rules.proofs.deciding.first_taken.Given as goal

abbrev pub invariant-loop-unit : goal.invariant-loop-unit
invariant-loop-unit g l = record {
  knows : Knows l.digests (g.B.Board.state l.board).content;
  made : MakesAtMost (2 * l.unit-index) l.fn.digests l.digests;
  kept : KeepsOut l.fn.pool l.pool;
  left : ordered_choice (images_in (g.B.Board.state l.board).content l.cpu) (drop l.unit-index l.units) None
      ≡ ordered_choice (images_in (g.B.Board.state l.board).content l.cpu) l.units None;
}
