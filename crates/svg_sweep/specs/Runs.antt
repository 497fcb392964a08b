-- Runs of steps.
use Rattle.std.specs.Prelude.{ℕ, ◌+◌, Bool, true, false, not, List, [], ◌∷◌, count_by, map, Option, Some, None}
use Rattle.equal_runs.specs.Runs.{RunOf, AreRuns as AreEqualRuns}
use Rattle.svg_marks.specs.declared.class.Class.{Class}
use Rattle.svg_marks.specs.declared.class.Class.TheVariants.{Chance}
use Rattle.svg_marks.specs.Reading.{is_class}
use Rattle.svg_sweep.specs.declared.runs.Run.{Run}

-- a run of steps as one of their classes
abbrev pub run_view : Run → RunOf Class
run_view run = record { first = run.first; last = run.last; entry = run.class }

-- The runs of steps with these classes: in their order they are all the steps, each has one class,
-- and neighbours differ. So each is as long as can be.
abbrev pub AreRuns : List Class → List Run → Type 0
AreRuns classes runs = AreEqualRuns classes (map run_view runs)

-- a run of this class ends before the next step, if there is one
abbrev pub ends_run : Class → Option Class → Bool
ends_run class None = true
ends_run class (Some next) = not (is_class class next)

abbrev pub first_of : List Class → Option Class
first_of [] = None
first_of (class ∷ classes) = Some class

abbrev pub next_first : Bool → ℕ → ℕ → ℕ
next_first true first k = k + 1
next_first false first k = first

abbrev pub run_by : Bool → Run → List Run → List Run
run_by true run runs = run ∷ runs
run_by false run runs = runs

-- the runs of steps, where a run has begun at the step `first`; the first of the steps has number
-- k
abbrev pub runs_from : ℕ → ℕ → List Class → List Run
runs_from first k [] = []
runs_from first k (class ∷ classes) =
    run_by (ends_run class (first_of classes)) (record { first = first; last = k; class = class })
    (runs_from (next_first (ends_run class (first_of classes)) first k) (k + 1) classes)

-- the runs of steps with these classes
unfoldable pub runs : List Class → List Run
runs classes = runs_from 0 0 classes

-- the runs of result `chance`
abbrev pub chance_runs : List Run → List Run
chance_runs [] = []
chance_runs (run ∷ runs) = run_by (is_class Chance run.class) run (chance_runs runs)

-- how many of the classes are this one
abbrev pub class_count : Class → List Class → ℕ
class_count class classes = count_by (is_class class) classes
