-- What a boot of the machine does. Source: RP2350 Datasheet, chapter 5 (Bootrom).
use Rattle.std.specs.Prelude.{List, [], Option, Some, None}
use Rattle.pico_board.specs.declared.Step.{Step}
use Rattle.pico_board.specs.declared.boot.Cpu.{Cpu}
use Rattle.pico_board.specs.declared.boot.BootKind.{BootKind}
use Rattle.pico_board.specs.Content.{Content}
use Rattle.slot_choice.specs.declared.choice.Choice.{Choice}
use Rattle.trial_buy.specs.Starting.{start_steps}
use Rattle.ram_start.specs.Sram.{zero_ram}
use Rattle.boot_rules.specs.declared.decision.Decision.{Decision}
use Rattle.boot_rules.specs.declared.decision.Decision.TheVariants.{Start, Bootsel}
use Rattle.boot_rules.specs.Choosing.{decision_in}
use Rattle.boot_rules.specs.Tables.{table_in}
use Rattle.boot_machine.specs.Machines.{StateView, InBootsel, Running, FromFlash}
use Rattle.text_lines.specs.Outcomes.{boot_outcome}
use Rattle.text_lines.specs.declared.outcome.EventOutcome.{EventOutcome}

-- what an event does where no power is lost: its steps, what the machine does afterwards, and its
-- outcome
pub record Effect : Type 0 where
  pub steps : List Step
  pub place : StateView
  pub outcome : EventOutcome

-- BOOTSEL as it is entered: with the content's table, without a download, and with an SRAM of zeros
abbrev pub entered : Content → StateView
entered c = InBootsel (record { found = table_in c; placing = None; ram = zero_ram })

-- what a decision writes, and where it leads
abbrev pub decided_steps : Content → Cpu → Decision → List Step
decided_steps c cpu (Start choice) = start_steps c cpu choice
decided_steps c cpu (Bootsel fall) = []

abbrev pub decided_place : Content → Decision → StateView
decided_place c (Start choice) = Running (FromFlash choice)
decided_place c (Bootsel fall) = entered c

-- a boot on a content, by itself or behind what a host's event came to
abbrev pub booted_by : Content → Cpu → Decision → Option EventOutcome → Effect
booted_by c cpu d before = record {
  steps = decided_steps c cpu d;
  place = decided_place c d;
  outcome = boot_outcome before d;
}

abbrev pub booted : Content → Cpu → BootKind → Option EventOutcome → Effect
booted c cpu kind before = booted_by c cpu (decision_in c cpu kind) before

-- the choice that a decision starts
abbrev pub choice_in : Decision → Option Choice
choice_in (Start choice) = Some choice
choice_in (Bootsel fall) = None
