-- The table of the machine: what each event does in each state, and what lost power leaves.
-- Source: RP2350 Datasheet, chapter 5 (Bootrom); the profile is this project's own.
use Rattle.std.specs.Prelude.{◌≡◌, ◌⊎◌, Bool, true, false, if◌then◌else◌, List, [], ◌∷◌, Option, Some, None, option_map}
use Rattle.pico_board.specs.declared.Step.{Step}
use Rattle.pico_board.specs.declared.boot.Cpu.{Cpu}
use Rattle.pico_board.specs.declared.boot.BootKind.{BootKind}
use Rattle.pico_board.specs.declared.boot.BootKind.TheVariants.{Normal}
use Rattle.pico_board.specs.Content.{Content}
use Rattle.pico_board.specs.Steps.{CutOf, after_all}
use Rattle.pico_board.specs.Cuts.{Cut, CutOutcome, cut_steps}
use Rattle.image_check.specs.Changes.{bought as bought_image}
use Rattle.slot_choice.specs.declared.choice.Choice.{Choice}
use Rattle.trial_buy.specs.Buying.{buy_steps}
use Rattle.boot_script.specs.Events.{EventView}
use Rattle.text_lines.specs.declared.outcome.EventOutcome.{EventOutcome}
use Rattle.text_lines.specs.declared.outcome.EventOutcome.TheVariants as event_outcomes
use Rattle.boot_machine.specs.Machines.{MachineView, Host, Program, StateView, Off, InBootsel, Running, FromFlash, FromRam}
use Rattle.boot_machine.specs.Boots.{Effect, booted}
use Rattle.boot_machine.specs.Serving.{followed, served_event}

-- nothing is done but an answer
abbrev pub stays_with : StateView → EventOutcome → Effect
stays_with place outcome = record { steps = []; place = place; outcome = outcome }

-- a boot of this kind, from any state
abbrev pub reset : Content → Cpu → BootKind → Effect
reset c cpu kind = booted c cpu kind None

-- without power only power that comes back does something
abbrev pub off_effect : Content → Cpu → EventView → Effect
off_effect c cpu EventView.PowerOn = reset c cpu Normal
off_effect c cpu event = stays_with Off event_outcomes.Off

-- in BOOTSEL the host is served, and resets are made
abbrev pub bootsel_effect : Content → Cpu → Host → EventView → Effect
bootsel_effect c cpu host (EventView.Command command payload) =
    followed c cpu (served_event c cpu host (EventView.Command command payload))
bootsel_effect c cpu host (EventView.Uf2 block) =
    followed c cpu (served_event c cpu host (EventView.Uf2 block))
bootsel_effect c cpu host (EventView.Reset kind) = reset c cpu kind
bootsel_effect c cpu host event = stays_with (InBootsel host) event_outcomes.Ignored

-- the choice of an image that is bought
abbrev pub bought_choice : Choice → Choice
bought_choice choice = record {
  image = bought_image choice.image;
  member = choice.member;
  other = choice.other;
  updated = choice.updated;
}

-- a running trial image buys itself; another one has nothing to buy
abbrev pub buy_effect : Content → Cpu → Program → Effect
buy_effect c cpu (FromFlash choice) =
    if choice.image.trial then record {
      steps = buy_steps c cpu choice;
      place = Running (FromFlash (bought_choice choice));
      outcome = event_outcomes.Bought;
    }
    else stays_with (Running (FromFlash choice)) event_outcomes.NothingToBuy
buy_effect c cpu (FromRam image) = stays_with (Running (FromRam image)) event_outcomes.NothingToBuy

-- while an image runs it may buy itself, and resets are made
abbrev pub running_effect : Content → Cpu → Program → EventView → Effect
running_effect c cpu program (EventView.Reset kind) = reset c cpu kind
running_effect c cpu program EventView.Buy = buy_effect c cpu program
running_effect c cpu program event = stays_with (Running program) event_outcomes.Ignored

abbrev pub effect_in : Content → Cpu → StateView → EventView → Effect
effect_in c cpu Off event = off_effect c cpu event
effect_in c cpu (InBootsel host) event = bootsel_effect c cpu host event
effect_in c cpu (Running program) event = running_effect c cpu program event

-- what an event does where no power is lost: a cut is armed and the script's end does nothing in
-- any state
abbrev pub effect : MachineView → EventView → Effect
effect m (EventView.Cut left within pattern) = stays_with m.place event_outcomes.CutArmed
effect m EventView.End = stays_with m.place event_outcomes.Ended
effect m event = effect_in m.content m.cpu m.place event

-- the cut that is armed while the event's steps are done, where the board tells it. A Cut event
-- takes the place of a former one
abbrev pub armed_for : Option (Option Cut) → EventView → Option (Option Cut)
armed_for armed (EventView.Cut left within pattern) =
    option_map (λ former. Some (record { left = left; within = within; pattern = pattern })) armed
armed_for armed event = armed

-- the steps were done or cut, and left this content and this armed cut, as a board told
pub record LeavesCutOutcome (o : CutOutcome) (done : Bool) (content : Content)
    (armed : Option (Option Cut)) : Type 0 where
  pub answer : o.answer ≡ done
  pub left : content ≡ o.content
  pub next : armed ≡ Some o.armed

-- where the board tells its armed cut, it decides whether the steps are done or cut, with which
-- bytes, and which cut is armed then. Otherwise nothing is told afterwards either
abbrev pub Decides : Option (Option Cut) → Content → List Step → Bool → Content
    → Option (Option Cut) → Type 0
Decides None c steps done d armed = armed ≡ None
Decides (Some cut) c steps done d armed = LeavesCutOutcome (cut_steps steps cut c) done d armed

-- the steps are done whole
pub record IsDoneWhole (m : MachineView) (armed : Option (Option Cut)) (e : Effect)
    (n : MachineView) (outcome : EventOutcome) : Type 0 where
  pub content : n.content ≡ after_all m.content e.steps
  pub armed_cut : Decides armed m.content e.steps true n.content n.armed
  pub cpu : n.cpu ≡ m.cpu
  pub place : n.place ≡ e.place
  pub told : outcome ≡ e.outcome

-- power is lost in one of the steps
pub record IsLost (m : MachineView) (armed : Option (Option Cut)) (e : Effect) (n : MachineView)
    (outcome : EventOutcome) : Type 0 where
  pub content : CutOf m.content e.steps n.content
  pub armed_cut : Decides armed m.content e.steps false n.content n.armed
  pub cpu : n.cpu ≡ m.cpu
  pub place : n.place ≡ Off
  pub told : outcome ≡ event_outcomes.PowerLost

abbrev pub MovesBy : MachineView → Option (Option Cut) → Effect → MachineView → EventOutcome
    → Type 0
MovesBy m armed e n outcome = IsDoneWhole m armed e n outcome ⊎ IsLost m armed e n outcome

-- Moves: an event takes the machine m to n, with this outcome
abbrev pub Moves : MachineView → EventView → MachineView → EventOutcome → Type 0
Moves m event n outcome = MovesBy m (armed_for m.armed event) (effect m event) n outcome

-- Plays: the events, one after another, take m to n, with these outcomes
abbrev pub Plays : MachineView → List EventView → MachineView → List EventOutcome → Type 0
Plays m [] n outcomes = (n ≡ m) × (outcomes ≡ [])
Plays m (event ∷ events) n outcomes =
    (mid : MachineView) × (outcome : EventOutcome) × (others : List EventOutcome)
    × Moves m event mid outcome × Plays mid events n others × (outcomes ≡ (outcome ∷ others))
