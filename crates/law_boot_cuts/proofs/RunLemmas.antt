-- Power that is lost in a buy or in a reset, and power that comes back.
use Rattle.std.proofs.Common.{◌≡◌, ◌≢◌, ℕ, Bool, true, refl, sym, ap, ◌∙◌, subst, inl, inr}
use Rattle.std.specs.Prelude.{if◌then◌else◌}
use Rattle.pico_board.specs.declared.Step.{Step}
use Rattle.pico_board.specs.declared.boot.BootKind.{BootKind}
use Rattle.pico_board.specs.declared.boot.BootKind.TheVariants.{Normal}
use Rattle.pico_board.specs.Steps.{CutOf, IsCutAt}
use Rattle.pico_board.proofs.CuttingLemmas.{IsCutAt-from}
use Rattle.slot_choice.specs.declared.choice.Choice.{Choice}
use Rattle.trial_buy.specs.Buying.{buy_steps}
use Rattle.trial_buy.specs.Starting.{start_steps}
use Rattle.boot_rules.specs.declared.decision.Decision.{Decision}
use Rattle.boot_rules.specs.declared.decision.Decision.TheVariants.{Start}
use Rattle.boot_rules.specs.Choosing.{decision_in}
use Rattle.boot_rules.specs.Chosen.{Chosen}
use Rattle.boot_rules.proofs.DecisionLemmas.{chosen-exactly}
use Rattle.boot_script.specs.Events.{EventView}
use Rattle.boot_machine.specs.Boots.{Effect, decided_place, decided_steps}
use Rattle.text_lines.specs.declared.outcome.EventOutcome.{EventOutcome}
use Rattle.text_lines.specs.declared.outcome.EventOutcome.TheVariants as event_outcomes
use Rattle.boot_machine.specs.Machines.{FromFlash, InBootsel, MachineView, Off, StateView, Running}
use Rattle.boot_machine.specs.Moves.{IsDoneWhole, IsLost, Moves, armed_for, bought_choice, effect, effect_in, stays_with}

-- the steps of a buy
buy-steps : (n : MachineView) (choice : Choice) → n.place ≡ Running (FromFlash choice) → choice.image.trial ≡ true
    → (effect n EventView.Buy).steps ≡ buy_steps n.content n.cpu choice
buy-steps n choice runs trial =
    ap (λ (place : StateView). (effect_in n.content n.cpu place EventView.Buy).steps) runs
    ∙ ap (λ (b : Bool). (let e : Effect = if b then record {
      steps = buy_steps n.content n.cpu choice;
      place = Running (FromFlash (bought_choice choice));
      outcome = event_outcomes.Bought;
    } else stays_with (Running (FromFlash choice)) event_outcomes.NothingToBuy in e).steps) trial

pub buy-cut : (n o : MachineView) (choice : Choice) → n.place ≡ Running (FromFlash choice) → choice.image.trial ≡ true
    → IsLost n (armed_for n.armed EventView.Buy) (effect n EventView.Buy) o event_outcomes.PowerLost
    → (k : ℕ) × (step : Step) × IsCutAt n.content (buy_steps n.content n.cpu choice) k step o.content
buy-cut n o choice runs trial lost =
    IsCutAt-from n.content (buy_steps n.content n.cpu choice) o.content
    (subst (λ steps. CutOf n.content steps o.content) (buy-steps n choice runs trial) lost.content)

-- the steps of a reset
reset-steps : (m : MachineView) (kind : BootKind) (place : StateView) → place ≢ Off
    → (effect_in m.content m.cpu place (EventView.Reset kind)).steps
    ≡ decided_steps m.content m.cpu (decision_in m.content m.cpu kind)
reset-steps m kind Off on = absurd (on refl)
reset-steps m kind (InBootsel host) on = refl
reset-steps m kind (Running program) on = refl

pub reset-cut : (m o : MachineView) (kind : BootKind) (choice : Choice) → m.place ≢ Off
    → Chosen m.content m.cpu kind (Start choice)
    → IsLost m (armed_for m.armed (EventView.Reset kind)) (effect m (EventView.Reset kind)) o event_outcomes.PowerLost
    → (k : ℕ) × (step : Step) × IsCutAt m.content (start_steps m.content m.cpu choice) k step o.content
reset-cut m o kind choice on chosen lost =
    let steps : (effect m (EventView.Reset kind)).steps ≡ start_steps m.content m.cpu choice =
    reset-steps m kind m.place on
    ∙ sym (ap (decided_steps m.content m.cpu) ((chosen-exactly m.content m.cpu kind (Start choice)).0 chosen)) in
    IsCutAt-from m.content (start_steps m.content m.cpu choice) o.content
    (subst (λ xs. CutOf m.content xs o.content) steps lost.content)

-- power that comes back leads where a normal boot on what is left leads
pub next-place : (o p : MachineView) (outcome : EventOutcome) (e : Decision) → o.place ≡ Off → Chosen o.content o.cpu Normal e
    → IsDoneWhole o (armed_for o.armed EventView.PowerOn) (effect o EventView.PowerOn) p outcome
    → p.place ≡ decided_place o.content e
next-place o p outcome e off chosen done =
    done.place
    ∙ ap (λ (place : StateView). (effect_in o.content o.cpu place EventView.PowerOn).place) off
    ∙ sym (ap (decided_place o.content) ((chosen-exactly o.content o.cpu Normal e).0 chosen))

pub is-done : (o p : MachineView) (event : EventView) (outcome : EventOutcome) → Moves o event p outcome → outcome ≢ event_outcomes.PowerLost
    → IsDoneWhole o (armed_for o.armed event) (effect o event) p outcome
is-done o p event outcome (inl done) other = done
is-done o p event outcome (inr lost) other = absurd (other lost.told)
