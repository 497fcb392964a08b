-- The work of `cuts`, as a function.
use Rattle.std.specs.Prelude.{ℕ, ◌||◌, Bool, false, if◌then◌else◌, nat_lt, List, [], ◌∷◌, length, map, codes}
use Rattle.pico_board.specs.declared.boot.Cpu.{Cpu}
use Rattle.pico_board.specs.Content.{Content}
use Rattle.boot_script.specs.Events.{EventView}
use Rattle.boot_script.specs.Scripts.{script_events}
use Rattle.cli_course.specs.Outcomes.{Verdict, Passes, IsUnbootable, IsMixed, Work, Judges, Refuses}
use Rattle.boot_cuts.specs.declared.answers.Answer.{Answer}
use Rattle.cut_class.specs.declared.class.Class.{Class}
use Rattle.cut_class.specs.declared.class.Class.TheVariants.{Mixed, Bootsel}
use Rattle.boot_cuts.specs.declared.runs.Run.{Run}
use Rattle.boot_cuts.specs.Answers.{answers, end_answer}
use Rattle.boot_cuts.specs.Counts.{has_class}
use Rattle.boot_cuts.specs.Found.{trace_limit}
use Rattle.boot_cuts.specs.Runs.{runs_of}
use Rattle.boot_tape.specs.Traces.{trace, trace_steps}
use Rattle.cli_check.specs.CutsTexts.{cuts_text}

-- the answers of the lines: those of the runs, and that of the end
abbrev pub run_answers : List Run → List Answer
run_answers runs = map (λ (run : Run). run.answer) runs

-- one of the answers is of this class
abbrev pub has_any : Class → List Answer → Bool
has_any class [] = false
has_any class (answer ∷ answers) = has_class class answer || has_any class answers

-- a start of an image that stood whole nowhere is worse than a fall
abbrev pub verdict_of : List Answer → Verdict
verdict_of answers =
    if has_any Mixed answers then IsMixed
    else if has_any Bootsel answers then IsUnbootable
    else Passes

-- the runs of the cuts of a script
abbrev pub script_runs : Content → Cpu → List EventView → List ℕ → List Run
script_runs c cpu events pattern = runs_of (answers c cpu events pattern)

-- what is told of the cuts of a script
abbrev pub told_cuts : Content → Cpu → List EventView → List ℕ → List ℕ
told_cuts c cpu events pattern =
    cuts_text (trace_steps (trace c cpu events).done) (trace c cpu events).numbers
    (script_runs c cpu events pattern)
    (end_answer c cpu events).class (end_answer c cpu events).decision

abbrev pub cuts_verdict : Content → Cpu → List EventView → List ℕ → Verdict
cuts_verdict c cpu events pattern =
    verdict_of (end_answer c cpu events ∷ run_answers (script_runs c cpu events pattern))

-- the events of a script, which is refused where its trace is too long
abbrev pub events_work : Content → Cpu → List ℕ → List EventView → List ℕ → Work
events_work c cpu name events pattern =
    if nat_lt trace_limit (length (trace c cpu events).done)
    then Refuses name (codes "too-many-steps")
    else Judges (cuts_verdict c cpu events pattern) (told_cuts c cpu events pattern)

abbrev pub cuts_work : Content → Cpu → List ℕ → List ℕ → List ℕ → Work
cuts_work c cpu name bytes pattern = events_work c cpu name (script_events bytes) pattern
