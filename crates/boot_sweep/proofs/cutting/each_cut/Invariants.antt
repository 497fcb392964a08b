use Rattle.std.proofs.Common.{◌≡◌, drop, length, map}
use Rattle.sector_pool.specs.Keeping.{KeepsOut}
use Rattle.boot_session.specs.Standing.{IsUnarmed}
use Rattle.boot_sweep.specs.EachCut.{AreAllIn, AreTaken, LieIn, Remembers}
use Rattle.boot_sweep.specs.Moving.{after_moves, done_count}
use Rattle.boot_sweep.proofs.cutting.each_cut.Given as goal

-- what does and finds the rest from here does and finds all from the start
abbrev pub invariant-loop-act : goal.invariant-loop-act
invariant-loop-act g l = record {
  ready : IsUnarmed (g.B.Board.state l.board);
  size : length (g.B.Board.state l.board).content.flash ≡ length (g.B.Board.state l.fn.board).content.flash;
  inside : AreAllIn (length (g.B.Board.state l.fn.board).content.flash)
      (map g.A.Act.act (drop l.act-index l.acts));
  lie : LieIn l.slot (map g.A.Act.act (drop l.act-index l.acts));
  known : Remembers (g.J.Judge.compared l.judge) (g.J.Judge.is_first l.judge) l.slot l.last
      (g.B.Board.state l.board).content;
  room : g.J.Judge.has_room l.found (done_count (map g.A.Act.act (drop l.act-index l.acts)));
  rest : after_moves (g.B.Board.state l.board).content (map g.A.Act.act (drop l.act-index l.acts))
      ≡ after_moves (g.B.Board.state l.fn.board).content (map g.A.Act.act l.acts);
  taken : (end : _)
      → AreTaken g.J.Judge.takes (g.J.Judge.answer l.judge) l.pattern l.found (g.B.Board.state l.board).content
      (map g.A.Act.act (drop l.act-index l.acts)) end
      → AreTaken g.J.Judge.takes (g.J.Judge.answer l.judge) l.pattern l.fn.found
      (g.B.Board.state l.fn.board).content (map g.A.Act.act l.acts) end;
  kept : KeepsOut l.fn.pool l.pool;
}
