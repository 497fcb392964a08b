-- What a script does to a board, step by step. Some steps complete, and the script's own cuts cut
-- others.
use Rattle.std.specs.Prelude.{ℕ, Bool, true, List, [], ◌∷◌}
use Rattle.std.specs.List.{AllByRecursion}
use Rattle.pico_board.specs.declared.Step.{Step}
use Rattle.pico_board.specs.Content.{Content}
use Rattle.pico_board.specs.Cuts.{cut_by, cut_with}
use Rattle.pico_board.specs.Steps.{after}
use Rattle.boot_sweep.specs.declared.moves.Move.{Move}
use Rattle.boot_tape.specs.Traces.{Traced}
-- a step that completes, or one that a cut of the script cuts, and what it leaves
pub use Rattle.boot_sweep.specs.Moving.{MoveView, Done, Torn, IsMoveIn, after_move, after_moves, done_count, move_from, moves_from}

-- the step of each lies in a flash of n bytes, and a pattern is as a bench asks
abbrev pub AreMovesIn : ℕ → List Move → Type 0
AreMovesIn n moves = AllByRecursion (IsMoveIn n) (moves_from moves)

-- the steps that complete, each with the content before it
abbrev pub traced_by : Content → List MoveView → List Traced
traced_by c [] = []
traced_by c (Done step ∷ moves) =
    record { before = c; step = step } ∷ traced_by (after c step) moves
traced_by c (Torn step within pattern ∷ moves) =
    traced_by (cut_by (cut_with 0 within pattern) c step) moves

-- the steps that complete
abbrev pub done_steps : List MoveView → List Step
done_steps [] = []
done_steps (Done step ∷ moves) = step ∷ done_steps moves
done_steps (Torn step within pattern ∷ moves) = done_steps moves

-- the step completes, or a cut within it tears it; a cut before it changes nothing
abbrev pub does_step : MoveView → Bool
does_step (Done step) = true
does_step (Torn step within pattern) = within
