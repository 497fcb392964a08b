-- What serving a host does to a board of which no cut is armed.
use Rattle.std.proofs.Common.{◌≡◌, Bool, true, List, [], ◌∷◌, ◌++◌, Option, Some, None, refl, sym, ap, ◌∙◌, subst, append_assoc, append-nil}
use Rattle.std.specs.Prelude.{◌&&◌, IsTrue, is_none}
use Rattle.std.specs.Bool.{OnTrue}
use Rattle.pico_board.specs.declared.Step.{Step}
use Rattle.pico_board.specs.declared.boot.BootKind.{BootKind}
use Rattle.pico_board.specs.Board.{State as BoardState, DoesAll, HasCutOutcome, AreCutAsArmed}
use Rattle.pico_board.specs.Content.{Content}
use Rattle.pico_board.specs.Cuts.{Cut, CutOutcome, cut_steps}
use Rattle.pico_board.specs.Steps.{after, after_all}
use Rattle.pico_board.proofs.StepLemmas.{after_all-append}
use Rattle.boot_script.specs.Events.{EventView}
use Rattle.boot_machine.specs.declared.parts.Parts.{Parts}
use Rattle.text_lines.specs.declared.outcome.EventOutcome.{EventOutcome}
use Rattle.boot_machine.specs.Machines.{Host, StateView, Off, InBootsel, Running, FromFlash, FromRam}
use Rattle.boot_machine.specs.Serving.{served_event}
use Rattle.boot_machine.specs.Standing.{IsServed, StandsAt, is_bootsel}
use Rattle.boot_session.specs.Playing.{GoesOnWith, HasServed, IsServedOn}

-- without an armed cut all steps complete
told-none : (steps : List Step) (c : Content)
    → cut_steps steps None c ≡ (record { answer = true; content = after_all c steps; armed = None })
told-none [] c = refl
told-none (step ∷ steps) c = told-none steps (after c step)

module _ {B : Type 0} (state : B → BoardState) (history : B → List Step → Type 0) where
  done-told : (armed : Option (Option Cut)) (c : Content) (steps : List Step) (ok : Bool) (t : BoardState)
      → armed ≡ Some None → AreCutAsArmed armed c steps ok t → (ok ≡ true) × (t.armed ≡ Some None)
  done-told armed c steps ok t none told =
      let outcome : HasCutOutcome (cut_steps steps None c) ok t =
      subst (λ a. AreCutAsArmed a c steps ok t) none told in (
        sym outcome.answer ∙ ap (λ (o : CutOutcome). o.answer) (told-none steps c),
        outcome.armed ∙ ap (λ (o : CutOutcome). Some o.armed) (told-none steps c),
      )

  pub all-served : (old new : B) (steps : List Step) (ok : Bool) → (state old).armed ≡ Some None
      → DoesAll state history old steps ok new → (ok ≡ true) × HasServed state history old steps new
  all-served old new steps ok none does =
      let whole = done-told (state old).armed (state old).content steps ok (state new) none does.told in (
        whole.0,
        record {
          content = subst (λ b. OnTrue b ((state new).content ≡ after_all (state old).content steps)) whole.0 does.done;
          power = does.power ∙ whole.0;
          unarmed = whole.1;
          recorded = subst (λ b. OnTrue b ((h : List Step) → history old h → history new (h ++ steps)))
              whole.0 does.recorded;
        },
      )

  pub served-none : (old : B) → IsTrue (state old).powered → (state old).armed ≡ Some None
      → HasServed state history old [] old
  served-none old power none = record {
    content = refl;
    power = power;
    unarmed = none;
    recorded = λ h is. subst (history old) (sym (append-nil h)) is;
  }

  pub served-append : (old mid new : B) (xs ys : List Step) → HasServed state history old xs mid
      → HasServed state history mid ys new → HasServed state history old (xs ++ ys) new
  served-append old mid new xs ys first second = record {
    content = second.content ∙ (ap (λ c. after_all c ys) first.content
        ∙ sym (after_all-append (state old).content xs ys));
    power = second.power;
    unarmed = second.unarmed;
    recorded = λ h is. subst (history new) (append_assoc h xs ys) (second.recorded (h ++ xs) (first.recorded h is));
  }

goes-next : {B : Type 0} (new : Parts B) (boot : Option BootKind) (place : StateView) (asked : Option BootKind)
    (goes : Bool) → asked ≡ boot → goes ≡ (is_none asked && is_bootsel new.state) → StandsAt new place
    → GoesOnWith goes new boot place
goes-next new (Some kind) place asked goes is g stands = g ∙ ap (λ a. is_none a && is_bootsel new.state) is
goes-next new None Off asked goes is g stands =
    g ∙ (ap (λ a. is_none a && is_bootsel new.state) is ∙ ap is_bootsel stands)
goes-next new None (InBootsel host) asked goes is g stands =
    (g ∙ (ap (λ a. is_none a && is_bootsel new.state) is ∙ ap is_bootsel stands.state), stands)
goes-next new None (Running (FromFlash choice)) asked goes is g stands =
    g ∙ (ap (λ a. is_none a && is_bootsel new.state) is ∙ ap is_bootsel stands.state)
goes-next new None (Running (FromRam image)) asked goes is g stands =
    g ∙ (ap (λ a. is_none a && is_bootsel new.state) is ∙ ap is_bootsel stands.state)

-- an event that was served, where no cut is armed
pub served-on : {B : Type 0} (state : B → BoardState) (history : B → List Step → Type 0) (old new : Parts B)
    (host : Host) (event : EventView) (asked : Option BootKind) (goes : Bool) (outcome : EventOutcome)
    → (state old.board).armed ≡ Some None
    → IsServed state history old (served_event (state old.board).content old.cpu host event) asked new outcome
    → goes ≡ (is_none asked && is_bootsel new.state) → IsServedOn state history old event goes new host
served-on state history old new host event asked goes outcome none is g =
    let s = served_event (state old.board).content old.cpu host event in
    let whole = all-served state history old.board new.board s.steps is.ok none is.by.board in record {
      board = whole.1;
      cpu = is.by.cpu;
      next = goes-next new s.boot s.place asked goes (subst (λ b. OnTrue b (asked ≡ s.boot)) whole.0 is.asked) g
          (subst (λ b. OnTrue b (StandsAt new s.place)) whole.0 is.by.place);
    }
