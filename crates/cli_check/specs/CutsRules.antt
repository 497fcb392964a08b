-- What is right for the cuts of a script, in the words of the rules.
use Rattle.std.specs.Prelude.{◌≡◌, ◌⊎◌, ℕ, ◌<◌, ◌≤◌, Contains, List, [], ◌∷◌, length, Ok, codes}
use Rattle.pico_board.specs.declared.boot.Cpu.{Cpu}
use Rattle.pico_board.specs.Content.{Content}
use Rattle.boot_script.specs.Events.{EventView}
use Rattle.boot_script.specs.Scripts.{events}
use Rattle.cli_course.specs.declared.status.Status.{Status}
use Rattle.cli_course.specs.declared.status.Status.TheVariants.{Done, Unbootable, Mixed as MixedStatus}
use Rattle.cli_course.specs.Outcomes.{AnswerView}
use Rattle.boot_cuts.specs.declared.answers.Answer.{Answer}
use Rattle.cut_class.specs.declared.class.Class.{Class}
use Rattle.cut_class.specs.declared.class.Class.TheVariants.{Mixed, Bootsel}
use Rattle.boot_cuts.specs.declared.runs.Run.{Run}
use Rattle.boot_cuts.specs.Contents.{cut_contents}
use Rattle.boot_cuts.specs.Found.{trace_limit}
use Rattle.boot_cuts.specs.Runs.{AreRuns}
use Rattle.boot_cuts.specs.Told.{AreAnswers, IsAnswer}
use Rattle.boot_tape.specs.Traces.{trace, trace_steps}
use Rattle.cli_check.specs.CutsTexts.{cuts_text}
use Rattle.cli_check.specs.CutsWorks.{run_answers}

-- one of the lines has this class
abbrev pub Says : Class → List Answer → Type 0
Says class lines = (line : Answer) × Contains lines line × (line.class ≡ class)

-- The status of lines with these answers. Where one says `mixed` it is that of an image that stood
-- whole nowhere. Otherwise, where one says `bootsel`, it is that of a board that does not boot.
-- Otherwise it is that of success.
abbrev pub IsStatusOf : List Answer → Status → Type 0
IsStatusOf lines status =
    ((status ≡ MixedStatus) × Says Mixed lines)
    ⊎ (((status ≡ Unbootable) × (Says Mixed lines → ⊥) × Says Bootsel lines)
    ⊎ ((status ≡ Done) × (Says Mixed lines → ⊥) × (Says Bootsel lines → ⊥)))

-- `cuts`: the events of the script up to its end complete at most so many steps on a machine that
-- starts without power, each by the event of its number. Each cut before and within them has its
-- answer. The runs follow one
-- another and hold every cut once. Each cut of a run has its class and its decision, and
-- neighbours differ. The outcome tells the runs and the end line, with the status of these lines,
-- and writes nothing.
pub record IsCutsOf (c : Content) (cpu : Cpu) (script pattern : List ℕ) (o : AnswerView)
    : Type 0 where
  pub happened : List EventView
  pub reads : events script ≡ Ok happened
  pub short : length (trace c cpu happened).done ≤ trace_limit
  pub told : List Answer
  pub answered : AreAnswers c (trace c cpu happened).last (trace c cpu happened).moves cpu
      (cut_contents pattern (trace c cpu happened).done) told
  pub runs : List Run
  pub maximal : AreRuns told runs
  pub end_ : Answer
  pub ended : IsAnswer c (trace c cpu happened).last (trace c cpu happened).moves cpu
      (trace c cpu happened).last end_
  pub text : o.text ≡ cuts_text (trace_steps (trace c cpu happened).done)
      (trace c cpu happened).numbers runs end_.class end_.decision
  pub status : IsStatusOf (end_ ∷ run_answers runs) o.status
  pub files : o.files ≡ []

-- the events of the script complete more steps than are judged, which is told of the script
pub record IsCutsRefused (name : List ℕ) (c : Content) (cpu : Cpu) (script blamed fault : List ℕ)
    : Type 0 where
  pub happened : List EventView
  pub reads : events script ≡ Ok happened
  pub many : trace_limit < length (trace c cpu happened).done
  pub blames : blamed ≡ name
  pub tells : fault ≡ codes "too-many-steps"
