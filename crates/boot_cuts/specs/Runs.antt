-- Runs of cuts: as many cuts, one after the other, as have one class and one decision.
use Rattle.std.specs.Prelude.{ℕ, ◌+◌, ◌&&◌, Bool, if◌then◌else◌, List, [], ◌∷◌, ◌++◌, map, Option, Some, None}
use Rattle.equal_runs.specs.Runs.{RunOf, AreRuns as AreEqualRuns}
use Rattle.boot_sweep.specs.Comparing.{is_same_decision}
use Rattle.boot_cuts.specs.declared.answers.Answer.{Answer}
use Rattle.cut_class.specs.Classes.{is_same_class}
use Rattle.boot_cuts.specs.declared.runs.Run.{Run}
use Rattle.boot_cuts.specs.declared.runs.Runs.{Runs}

-- a run of cuts as one of their answers
abbrev pub run_view : Run → RunOf Answer
run_view run = record { first = run.first; last = run.last; entry = run.answer }

-- The runs of cuts with these answers: in their order they are all the cuts, each has one class and
-- one decision, and neighbours differ. So each is as long as can be.
abbrev pub AreRuns : List Answer → List Run → Type 0
AreRuns answers runs = AreEqualRuns answers (map run_view runs)

-- the class and the decision are the same
abbrev pub is_same_answer : Answer → Answer → Bool
is_same_answer a b = is_same_class a.class b.class && is_same_decision a.decision b.decision

-- a run of the cut k alone
abbrev pub lone_run : ℕ → Answer → Run
lone_run k answer = record { first = k; last = k; answer = answer }

-- the run up to the cut k
abbrev pub longer_run : Run → ℕ → Run
longer_run run k = record { first = run.first; last = k; answer = run.answer }

-- the runs of the cuts from k on with these answers, of which the first may belong to a run that
-- has begun
abbrev pub runs_behind : Run → ℕ → List Answer → List Run
runs_behind run k [] = run ∷ []
runs_behind run k (answer ∷ answers) =
    if is_same_answer answer run.answer then runs_behind (longer_run run k) (k + 1) answers
    else run ∷ runs_behind (lone_run k answer) (k + 1) answers

-- the runs of cuts with these answers
abbrev pub runs_of : List Answer → List Run
runs_of [] = []
runs_of (answer ∷ answers) = runs_behind (lone_run 0 answer) 1 answers

-- the run that ends before the cut k, if one does, and the one that the cut belongs to
abbrev pub run_after : Run → ℕ → Answer → Option Run × Run
run_after run k answer =
    if is_same_answer answer run.answer then (None, longer_run run k)
    else (Some run, lone_run k answer)

abbrev pub next_runs : Option Run → ℕ → Answer → Option Run × Run
next_runs None k answer = (None, lone_run k answer)
next_runs (Some run) k answer = run_after run k answer

abbrev pub option_list : {A : Type 0} → Option A → List A
option_list None = []
option_list (Some x) = x ∷ []

-- the runs of the cuts from k on, the first of which may belong to a run that goes on
abbrev pub open_runs : Option Run → ℕ → List Answer → List Run
open_runs None k [] = []
open_runs None k (answer ∷ answers) = runs_behind (lone_run k answer) (k + 1) answers
open_runs (Some run) k answers = runs_behind run k answers

-- all runs, where cuts with these answers follow
abbrev pub all_runs : Runs → List Answer → List Run
all_runs runs answers = runs.ended.items ++ open_runs runs.current runs.next answers
