-- Runs of cuts on the way.
use Rattle.std.proofs.Common.{◌≡◌, ℕ, ◌+◌, Bool, true, false, List, [], ◌∷◌, ◌++◌, Option, Some, None, ap, append_assoc, append-nil}
use Rattle.std.specs.Prelude.{if◌then◌else◌}
use Rattle.boot_cuts.specs.declared.answers.Answer.{Answer}
use Rattle.boot_cuts.specs.declared.runs.Run.{Run}
use Rattle.boot_cuts.specs.Runs.{is_same_answer, lone_run, longer_run, next_runs, open_runs, option_list, runs_behind}

-- one cut more: what has ended, and the run that the cut belongs to
pub one-more : (ended : List Run) (current : Option Run) (k : ℕ) (answer : Answer) (answers : List Answer)
    → (ended ++ option_list (next_runs current k answer).0)
    ++ open_runs (Some (next_runs current k answer).1) (k + 1) answers
    ≡ ended ++ open_runs current k (answer ∷ answers)
one-more ended None k answer answers =
    ap (λ xs. xs ++ runs_behind (lone_run k answer) (k + 1) answers) (append-nil ended)
one-more ended (Some run) k answer answers = go (is_same_answer answer run.answer)
  where
    go : (b : Bool) → (let pair : Option Run × Run = (if b then (None, longer_run run k) else (Some run, lone_run k answer)) in (ended ++ option_list pair.0)
        ++ open_runs (Some pair.1) (k + 1) answers
        ≡ ended ++ (if b then runs_behind (longer_run run k) (k + 1) answers
        else run ∷ runs_behind (lone_run k answer) (k + 1) answers))
    go true = ap (λ xs. xs ++ runs_behind (longer_run run k) (k + 1) answers) (append-nil ended)
    go false = append_assoc ended (run ∷ []) (runs_behind (lone_run k answer) (k + 1) answers)
