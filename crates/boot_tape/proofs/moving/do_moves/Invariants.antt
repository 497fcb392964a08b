use Rattle.std.proofs.Common.{◌≡◌, drop, length}
use Rattle.pico_board.specs.MemBoard.{state_of}
use Rattle.boot_session.specs.Standing.{IsUnarmed}
use Rattle.boot_tape.specs.Moving.{after_moves, moves_from}
use Rattle.boot_tape.proofs.moving.do_moves.Given as goal

-- what the moves that are left leave from here is what all leave from the start
abbrev pub invariant-loop-moved : goal.invariant-loop-moved
invariant-loop-moved l = record {
  ready : IsUnarmed (state_of l.board);
  size : length (state_of l.board).content.flash ≡ length (state_of l.fn.board).content.flash;
  rest : after_moves (state_of l.board).content (moves_from (drop l.moved-index l.moves))
      ≡ after_moves (state_of l.fn.board).content (moves_from l.moves);
}
