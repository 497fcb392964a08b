use Rattle.std.proofs.Common.{◌≤◌, ◌+◌, ℕ, All, Bool, drop}
use Rattle.pico_board.specs.Steps.{IsStepIn}
use Rattle.boot_tape.specs.declared.trace.Tape.{Tape}
use Rattle.boot_tape.specs.Playing.{IsLeftBy, IsTapeIn, cut_moves, told_of}
use Rattle.boot_tape.proofs.trace.Tape.take_steps.Given as goal

-- whatever takes the rest from here takes all from the start
abbrev pub invariant-loop-step : goal.invariant-loop-step
invariant-loop-step l = record {
  ready : (n : ℕ) → IsTapeIn n l.fn.self → All (IsStepIn n) l.steps → IsTapeIn n l.self;
  few : l.self.done ≤ l.fn.self.done + l.step-index;
  rest : (whole : Bool) (new : Tape)
      → IsLeftBy l.self (cut_moves (told_of l.self) (drop l.step-index l.steps)) l.number whole new
      → IsLeftBy l.fn.self (cut_moves (told_of l.fn.self) l.steps) l.number whole new;
}
