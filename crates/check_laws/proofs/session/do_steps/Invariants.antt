use Rattle.std.proofs.Common.{◌≡◌, drop, length}
use Rattle.pico_board.specs.MemBoard.{state_of}
use Rattle.pico_board.specs.Steps.{after_all}
use Rattle.boot_session.specs.Standing.{IsUnarmed}
use Rattle.check_laws.proofs.session.do_steps.Given as goal

-- what the steps that are left leave from here is what all leave from the start
abbrev pub invariant-loop-step : goal.invariant-loop-step
invariant-loop-step l = record {
  ready : IsUnarmed (state_of l.board);
  size : length (state_of l.board).content.flash ≡ length (state_of l.fn.board).content.flash;
  rest : after_all (state_of l.board).content (drop l.step-index l.steps)
      ≡ after_all (state_of l.fn.board).content l.steps;
}
