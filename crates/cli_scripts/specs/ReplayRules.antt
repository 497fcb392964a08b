-- What is right for a replay, by the machine's rules.
use Rattle.std.specs.Prelude.{◌≡◌, ℕ, Ok, List, ◌++◌}
use Rattle.pico_board.specs.declared.boot.Cpu.{Cpu}
use Rattle.pico_board.specs.Content.{Content}
use Rattle.boot_script.specs.Events.{EventView}
use Rattle.boot_script.specs.Scripts.{events}
use Rattle.text_lines.specs.declared.outcome.EventOutcome.{EventOutcome}
use Rattle.boot_machine.specs.Machines.{MachineView}
use Rattle.boot_machine.specs.Moves.{Plays}
use Rattle.cli_course.specs.declared.status.Status.TheVariants.{Done}
use Rattle.cli_course.specs.Outcomes.{AnswerView}
use Rattle.boot_machine.specs.Plays.{powerless}
use Rattle.cli_scripts.specs.ReplayWorks.{event_lines, end_line, content_files}

-- `replay`: the events of the script up to its end take a machine without power, on which no cut
-- is armed, to another machine; the outcome prints their lines, and writes the content that the
-- events leave
pub record IsReplayOf (c : Content) (cpu : Cpu) (script flash otp : List ℕ) (o : AnswerView)
    : Type 0 where
  pub happened : List EventView
  pub reads : events script ≡ Ok happened
  pub last : MachineView
  pub outcomes : List EventOutcome
  pub plays : Plays (powerless c cpu) happened last outcomes
  pub status : o.status ≡ Done
  pub text : o.text ≡ event_lines 0 outcomes ++ end_line last.place
  pub files : o.files ≡ content_files flash otp last.content
