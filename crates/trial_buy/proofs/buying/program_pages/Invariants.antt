use Rattle.std.proofs.Common.{◌≡◌, ◌-◌, Bool, true}
use Rattle.pico_board.specs.Board.{DoesAll}
use Rattle.std.specs.Prelude.{length}
use Rattle.trial_buy.specs.Buying.{page_programs}
use Rattle.trial_buy.proofs.StepLemmas.{programs_from}
use Rattle.trial_buy.proofs.buying.program_pages.Given as goal

abbrev pub invariant-loop-i : goal.invariant-loop-i
invariant-loop-i g l = record {
  power : (g.B.Board.state l.board).powered ≡ true;
  size : length (g.B.Board.state l.board).content.flash ≡ length (g.B.Board.state l.fn.board).content.flash;
  rest : (ok : Bool) (u : _)
      → DoesAll g.B.Board.state g.B.Board.history l.board (programs_from l.sector l.bytes l.i (16 - l.i)) ok u
      → DoesAll g.B.Board.state g.B.Board.history l.fn.board (page_programs l.sector l.bytes) ok u;
}
