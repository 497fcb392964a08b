-- What is done to a board, step by step. Some steps complete, and others are cut on their way.
use Rattle.std.specs.Prelude.{ℕ, ◌+◌, Bool, List, [], ◌∷◌, map}
use Rattle.pico_board.specs.declared.Step.{Step}
use Rattle.pico_board.specs.Content.{Content}
use Rattle.pico_board.specs.Cuts.{IsPattern, cut_by, cut_with}
use Rattle.pico_board.specs.Steps.{IsStepIn, after}
use Rattle.boot_sweep.specs.declared.moves.Move.{Move}
use Rattle.boot_sweep.specs.declared.moves.Move.TheVariants as rust

-- a step that completes, or one that is cut, within it or before it, which leaves the pattern
pub data MoveView : Type 0 where
  Done : (step : Step) → MoveView
  Torn : (step : Step) → (within : Bool) → (pattern : List ℕ) → MoveView

abbrev pub move_from : Move → MoveView
move_from (rust.Done step) = Done step
move_from (rust.Torn step within pattern) = Torn step within pattern.now

abbrev pub moves_from : List Move → List MoveView
moves_from moves = map move_from moves

-- the step that is done or cut
abbrev pub moved_step : MoveView → Step
moved_step (Done step) = step
moved_step (Torn step within pattern) = step

-- the step's range lies in a flash of n bytes, and a pattern is as a bench asks
abbrev pub IsMoveIn : ℕ → MoveView → Type 0
IsMoveIn n (Done step) = IsStepIn n step
IsMoveIn n (Torn step within pattern) = IsStepIn n step × IsPattern within pattern

-- the content that is left
abbrev pub after_move : Content → MoveView → Content
after_move c (Done step) = after c step
after_move c (Torn step within pattern) = cut_by (cut_with 0 within pattern) c step

abbrev pub after_moves : Content → List MoveView → Content
after_moves c [] = c
after_moves c (moved ∷ moves) = after_moves (after_move c moved) moves

-- how many steps complete
abbrev pub done_count : List MoveView → ℕ
done_count [] = 0
done_count (Done step ∷ moves) = done_count moves + 1
done_count (Torn step within pattern ∷ moves) = done_count moves
