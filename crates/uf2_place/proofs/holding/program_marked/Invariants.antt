-- Whatever programs the pages from here on programs all of them from the start.
use Rattle.std.proofs.Common.{◌≡◌, ◌+◌, ◌*◌, ◌≤◌, Bool, true, length}
use Rattle.pico_board.specs.Board.{DoesAll}
use Rattle.uf2_place.specs.Downloads.{held_page}
use Rattle.uf2_place.specs.Placement.{programs_in}
use Rattle.uf2_place.proofs.HeldPageLemmas.{programs_left}
use Rattle.uf2_place.proofs.holding.program_marked.Given as goal

abbrev pub invariant-loop-place : goal.invariant-loop-place
invariant-loop-place g l = record {
  power : (g.B.Board.state l.board).powered ≡ true;
  size : 4096 * l.sector + 4096 ≤ length (g.B.Board.state l.board).content.flash;
  rest : (ok : Bool) (new : _)
      → DoesAll g.B.Board.state g.B.Board.history l.board (programs_left l.sector l.place
      (held_page l.pages l.bytes)) ok new
      → DoesAll g.B.Board.state g.B.Board.history l.fn.board (programs_in l.sector (held_page l.pages l.bytes)) ok new;
}
