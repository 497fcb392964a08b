-- The definitions of the laws on what an image that runs writes: what the machine knows of it, and
-- runs in which power is lost in its buy.
use Rattle.std.specs.Prelude.{◌≡◌, ℕ, false, true, List}
use Rattle.pico_board.specs.declared.Step.{Step}
use Rattle.pico_board.specs.declared.boot.Cpu.{Cpu}
use Rattle.pico_board.specs.Content.{Content, IsContent}
use Rattle.pico_board.specs.Steps.{IsCutAt, after_all}
use Rattle.otp_roll.specs.Flags.{flash_off}
use Rattle.image_check.specs.Valid.{Valid}
use Rattle.slot_choice.specs.declared.unit.SlotUnit.{SlotUnit}
use Rattle.slot_choice.specs.declared.choice.Choice.{Choice}
use Rattle.trial_buy.specs.Buying.{buy_steps}
use Rattle.boot_rules.specs.Starts.{IsOfUnit}
use Rattle.boot_script.specs.Events.{EventView}
use Rattle.law_boot_cuts.specs.Crashes.{LeavesNoAccidentalImage}
use Rattle.text_lines.specs.declared.outcome.EventOutcome.{EventOutcome}
use Rattle.text_lines.specs.declared.outcome.EventOutcome.TheVariants.{PowerLost}
use Rattle.boot_machine.specs.Machines.{FromFlash, MachineView, Running}
use Rattle.boot_machine.specs.Moves.{Moves, Plays}
use Rattle.boot_machine.specs.Runs.{IsFresh}

-- what is known of an updated image where it stands: the image is valid in its window with a trial
-- allowed; the window is a member of this boot unit, and `other` is the other member; flash boot
-- is not off
pub record StandsValid (c : Content) (cpu : Cpu) (choice : Choice) (u : SlotUnit) : Type 0 where
  pub updated : choice.updated ≡ true
  pub unit : IsOfUnit c cpu choice u
  pub valid : Valid c choice.image.window cpu true choice.image
  pub on : flash_off c.otp ≡ false

-- a run from a fresh machine m to n, in which a trial image runs
pub record RunsTrial (m n : MachineView) (choice : Choice) : Type 0 where
  pub events : List EventView
  pub outcomes : List EventOutcome
  pub fresh : IsFresh m.place
  pub plays : Plays m events n outcomes
  pub runs : n.place ≡ Running (FromFlash choice)
  pub trial : choice.image.trial ≡ true

-- the steps of the image's buy on the content as it then is
abbrev pub buys : MachineView → Choice → List Step
buys n choice = buy_steps n.content n.cpu choice

-- power is lost in the buy of a running trial image, in this step, and this leaves o; the cut
-- leaves no accidental image (`LeavesNoAccidentalImage`)
pub record LosesBuy (m n o : MachineView) (choice : Choice) (u : SlotUnit) (step : Step)
    : Type 0 where
  pub run : RunsTrial m n choice
  pub content : IsContent n.content
  pub lost : Moves n EventView.Buy o PowerLost
  pub unit : IsOfUnit n.content n.cpu choice u
  pub place : ℕ
  pub cut : IsCutAt n.content (buys n choice) place step o.content
  pub no_accident : LeavesNoAccidentalImage n.content
      (after_all n.content (buys n choice)) o.content n.cpu choice step
