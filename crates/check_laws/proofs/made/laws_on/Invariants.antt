use Rattle.std.proofs.Common.{◌≡◌, drop, length}
use Rattle.pico_board.specs.MemBoard.{state_of}
use Rattle.sector_pool.specs.Pool.{HasFree}
use Rattle.boot_session.specs.Standing.{IsUnarmed}
use Rattle.boot_tape.specs.Moving.{AreMovesIn, moves_from}
use Rattle.check_laws.specs.Made.{laws_over, made_by, no_writes}
use Rattle.check_laws.proofs.made.laws_on.Given as goal

-- the laws so far with the events that are left are those of all events
abbrev pub invariant-loop-note : goal.invariant-loop-note
invariant-loop-note l = record {
  ready : IsUnarmed (state_of l.board);
  free : HasFree l.pool;
  range : AreMovesIn (length (state_of l.board).content.flash) l.left;
  rest : laws_over l.cpu l.laws
      (made_by (state_of l.board).content (drop l.note-index l.notes) (moves_from l.left))
      ≡ laws_over l.cpu no_writes (made_by (state_of l.fn.board).content l.notes (moves_from l.fn.moves));
}
