-- How many cuts are of a class.
use Rattle.std.specs.Prelude.{ℕ, ◌+◌, ◌-◌, Bool, if◌then◌else◌, List, [], ◌∷◌, count_by}
use Rattle.boot_cuts.specs.declared.answers.Answer.{Answer}
use Rattle.cut_class.specs.declared.class.Class.{Class}
use Rattle.boot_cuts.specs.declared.runs.Run.{Run}
use Rattle.cut_class.specs.Classes.{is_same_class}

-- the answer is of this class
abbrev pub has_class : Class → Answer → Bool
has_class class answer = is_same_class class answer.class

-- how many of the cuts with these answers are of this class
abbrev pub class_count : Class → List Answer → ℕ
class_count class answers = count_by (has_class class) answers

-- how many cuts the run has, where it is of this class
abbrev pub run_count : Class → Run → ℕ
run_count class run = if has_class class run.answer then run.last + 1 - run.first else 0

-- how many cuts of this class the runs have
abbrev pub runs_count : Class → List Run → ℕ
runs_count class [] = 0
runs_count class (run ∷ runs) = run_count class run + runs_count class runs
