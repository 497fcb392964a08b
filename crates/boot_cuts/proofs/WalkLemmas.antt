-- The cuts of what a script does, and the runs that they are taken into.
use Rattle.std.proofs.Common.{◌≡◌, ℕ, ◌++◌, List, [], ◌∷◌, Option, Some, None, refl, ap, ◌∙◌}
use Rattle.std.specs.List.{AllByRecursion}
use Rattle.pico_board.specs.Content.{Content}
use Rattle.pico_board.specs.Cuts.{cut_by, cut_with}
use Rattle.pico_board.specs.Steps.{after}
use Rattle.boot_sweep.specs.declared.slots.Slot.{Slot}
use Rattle.boot_sweep.specs.EachCut.{AreTaken, LieIn}
use Rattle.boot_cuts.specs.declared.answers.Answer.{Answer}
use Rattle.boot_cuts.specs.declared.judging.Ends.{Ends}
use Rattle.boot_cuts.specs.declared.runs.Run.{Run}
use Rattle.boot_cuts.specs.declared.runs.Runs.{Runs}
use Rattle.boot_cuts.specs.Beside.{IsMoveBeside}
use Rattle.boot_cuts.specs.Judging.{judge, told_answers}
use Rattle.boot_tape.specs.Moving.{MoveView, Done, Torn}
use Rattle.boot_cuts.specs.Runs.{all_runs, open_runs, runs_of}

-- the step of each move lies in the slot
pub moves-lie : (slot : Option Slot) (moves : List MoveView) → AllByRecursion (IsMoveBeside slot) moves
    → LieIn slot moves
moves-lie slot [] all = tt
moves-lie None (Done step ∷ moves) all = (tt, moves-lie None moves all.1)
moves-lie None (Torn step within pattern ∷ moves) all = (tt, moves-lie None moves all.1)
moves-lie (Some slot) (Done step ∷ moves) all = (all.0, moves-lie (Some slot) moves all.1)
moves-lie (Some slot) (Torn step within pattern ∷ moves) all = absurd all.0

-- the runs, where the answers of all cuts were taken
pub runs-taken : (ends : Ends) (pattern : List ℕ) (old : Runs) (c : Content) (moves : List MoveView) (new : Runs)
    → AreTaken (λ (f : Runs) before within (g : Runs). (answers : List Answer)
    → all_runs g answers ≡ all_runs f (before ∷ within ∷ answers)) (judge ends) pattern old c moves new
    → all_runs new [] ≡ all_runs old (told_answers ends pattern c moves)
runs-taken ends pattern old c [] new taken = ap (λ (runs : Runs). all_runs runs []) taken
runs-taken ends pattern old c (Done step ∷ moves) new taken =
    runs-taken ends pattern taken.0 (after c step) moves new taken.2
    ∙ taken.1 (told_answers ends pattern (after c step) moves)
runs-taken ends pattern old c (Torn step within own ∷ moves) new taken =
    runs-taken ends pattern old (cut_by (cut_with 0 within own) c step) moves new taken

-- no cut comes before these
pub runs-begun : (runs : Runs) (answers : List Answer) → runs.ended.items ≡ [] → runs.current ≡ None
    → runs.next ≡ 0 → all_runs runs answers ≡ runs_of answers
runs-begun runs answers ended none first =
    ap (λ (xs : List Run). xs ++ open_runs runs.current runs.next answers) ended
    ∙ (ap (λ (o : Option Run). open_runs o runs.next answers) none
    ∙ (ap (λ (n : ℕ). open_runs None n answers) first ∙ go answers))
  where
    go : (answers : List Answer) → open_runs None 0 answers ≡ runs_of answers
    go [] = refl
    go (answer ∷ answers) = refl
