-- What is found of the cuts of a script on a content.
use Rattle.std.specs.Prelude.{◌≡◌, ℕ, ◌<◌, ◌≤◌, List, length, Option, Some, None}
use Rattle.pico_board.specs.declared.boot.Cpu.{Cpu}
use Rattle.pico_board.specs.declared.boot.BootKind.TheVariants.{Normal}
use Rattle.pico_board.specs.Content.{Content}
use Rattle.boot_rules.specs.Choosing.{decision_in}
use Rattle.boot_script.specs.Events.{EventView}
use Rattle.boot_cuts.specs.declared.found.Cuts.{Cuts}
use Rattle.boot_cuts.specs.Answers.{answers}
use Rattle.boot_cuts.specs.Classing.{class_of}
use Rattle.boot_cuts.specs.Runs.{runs_of}
use Rattle.boot_cuts.specs.Tears.{left_torn}
use Rattle.boot_tape.specs.Traces.{trace, trace_steps}

-- the most steps of a trace whose cuts are judged
abbrev pub trace_limit : ℕ
trace_limit = 262144

-- the trace of a script has at most so many steps
abbrev pub IsShort : Content → Cpu → List EventView → Type 0
IsShort c cpu events = length (trace c cpu events).done ≤ trace_limit

-- the steps of the trace with the numbers of their events, the runs of its cuts, the decisions
-- before and after the script, and the class of what it leaves
pub record AreCutsOf (c : Content) (cpu : Cpu) (events : List EventView) (pattern : List ℕ)
    (found : Cuts) : Type 0 where
  pub short : IsShort c cpu events
  pub steps : found.steps.items ≡ trace_steps (trace c cpu events).done
  pub numbers : found.numbers.items ≡ (trace c cpu events).numbers
  pub runs : found.runs.items ≡ runs_of (answers c cpu events pattern)
  pub former : found.former ≡ decision_in c cpu Normal
  pub finished : found.finished ≡ decision_in (trace c cpu events).last cpu Normal
  pub end_ : found.end_ ≡ class_of c (trace c cpu events).last
      (left_torn (trace c cpu events).moves) cpu (trace c cpu events).last

-- the cuts of a script, or none where its trace has too many steps
abbrev pub AreCutsFound : Content → Cpu → List EventView → List ℕ → Option Cuts → Type 0
AreCutsFound c cpu events pattern None = trace_limit < length (trace c cpu events).done
AreCutsFound c cpu events pattern (Some found) = AreCutsOf c cpu events pattern found
