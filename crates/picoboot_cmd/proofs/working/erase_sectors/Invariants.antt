-- Whatever erases the sectors from here on erases all of them from the start.
use Rattle.std.proofs.Common.{◌≡◌, ◌+◌, ◌-◌, Bool, true, length}
use Rattle.pico_board.specs.Board.{DoesAll}
use Rattle.picoboot_cmd.specs.Sectors.{erases}
use Rattle.picoboot_cmd.proofs.working.erase_sectors.Given as goal

abbrev pub invariant-loop-sector : goal.invariant-loop-sector
invariant-loop-sector g l = record {
  power : (g.B.Board.state l.board).powered ≡ true;
  size : length (g.B.Board.state l.board).content.flash ≡ length (g.B.Board.state l.fn.board).content.flash;
  rest : (ok : Bool) (u : _)
      → DoesAll g.B.Board.state g.B.Board.history l.board (erases l.sector (l.first + l.count - l.sector)) ok u
      → DoesAll g.B.Board.state g.B.Board.history l.fn.board (erases l.first l.count) ok u;
}
