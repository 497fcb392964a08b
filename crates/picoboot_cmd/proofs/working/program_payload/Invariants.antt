-- Whatever programs the pages from here on programs all of them from the start.
use Rattle.std.proofs.Common.{◌≡◌, ◌+◌, ◌-◌, ◌*◌, ◌/◌, Bool, true, length, drop}
use Rattle.pico_board.specs.Board.{DoesAll}
use Rattle.picoboot_cmd.specs.Pages.{programs, programs_of}
use Rattle.picoboot_cmd.proofs.working.program_payload.Given as goal

abbrev pub invariant-loop-i : goal.invariant-loop-i
invariant-loop-i g l = record {
  power : (g.B.Board.state l.board).powered ≡ true;
  size : length (g.B.Board.state l.board).content.flash ≡ length (g.B.Board.state l.fn.board).content.flash;
  rest : (ok : Bool) (u : _)
      → DoesAll g.B.Board.state g.B.Board.history l.board
      (programs_of ((length l.bytes + 255) / 256 - l.i) (l.first + l.i) (drop (256 * l.i) l.bytes)) ok u
      → DoesAll g.B.Board.state g.B.Board.history l.fn.board (programs l.first l.bytes) ok u;
}
