use Rattle.std.proofs.Common.{◌≡◌, ◌++◌, ◌≤◌, drop, length}
use Rattle.sector_pool.specs.Keeping.{KeepsOut}
use Rattle.image_check.specs.Digests.{Knows}
use Rattle.boot_reasons.specs.Looks.{reports_of}
use Rattle.boot_reasons.specs.Reasons.{results_in}
use Rattle.boot_reasons.proofs.looking.reports_on.Given as goal

abbrev pub invariant-loop-unit : goal.invariant-loop-unit
invariant-loop-unit g l = record {
  kept : KeepsOut l.fn.pool l.pool;
  knows : Knows l.digests (g.B.Board.state l.board).content;
  few : length l.looks.items ≤ l.unit-index;
  left : l.looks.items
      ++ reports_of (results_in (g.B.Board.state l.board).content l.cpu) (drop l.unit-index l.units) l.member
      ≡ reports_of (results_in (g.B.Board.state l.board).content l.cpu) l.units l.fn.updated;
}
