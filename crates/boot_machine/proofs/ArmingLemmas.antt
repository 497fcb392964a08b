-- An event as a move of the machine: what a board did in it, or a cut that is armed.
use Rattle.std.proofs.Common.{Bor, ◌≡◌, ◌≢◌, ◌⊎◌, inl, inr, ℕ, ◌≤◌, ◌/◌, Bool, true, false, List, [], ◌++◌, Option, Some, None, length, arith, refl, sym, ap, ◌∙◌, subst}
use Rattle.std.specs.Prelude.{IsTrue, option_map}
use Rattle.std.proofs.lemmas.List.{append-nil}
use Rattle.pico_board.specs.declared.Step.{Step}
use Rattle.pico_board.specs.Content.{Content}
use Rattle.pico_board.specs.Cuts.{Cut}
use Rattle.pico_board.specs.Histories.{Extends}
use Rattle.pico_board.specs.Steps.{CutOf, after_all}
use Rattle.pico_board.specs.Board.{State as BoardState, Becomes, AreCutAsArmed, with_cut}
use Rattle.part_table.specs.Sound.{IsSoundTable}
use Rattle.uf2_place.specs.Downloads.{IsTargetIn}
use Rattle.boot_script.specs.declared.event.Event.{Event}
use Rattle.boot_script.specs.declared.event.Event.TheVariants as events
use Rattle.boot_script.specs.Events.{EventView, event_from}
use Rattle.text_lines.specs.declared.outcome.EventOutcome.{EventOutcome}
use Rattle.text_lines.specs.declared.outcome.EventOutcome.TheVariants as event_outcomes
use Rattle.boot_machine.specs.declared.parts.Parts.{Parts}
use Rattle.boot_machine.specs.Machines.{MachineView, Off, InBootsel, StateView, Running, FromFlash, FromRam}
use Rattle.boot_machine.specs.Boots.{Effect}
use Rattle.boot_machine.specs.Moves.{Decides, armed_for, effect, effect_in}
use Rattle.boot_machine.specs.Standing.{Comes, IsBy, IsHeldChoice, IsIdle, IsStep, IsSteady, Stands, StandsAt}
use Rattle.boot_machine.proofs.LostLemmas.{not-lost}
use Rattle.boot_machine.proofs.SteadinessLemmas.{with_board}

-- no step is decided by any cut
none-decided : (armed : Option (Option Cut)) (c : Content) → Decides armed c [] true c armed
none-decided None c = refl
none-decided (Some cut) c = record { answer = refl; left = refl; next = refl }

-- what a board told
told-decides : (armed : Option (Option Cut)) (c : Content) (steps : List Step) (ok : Bool) (t : BoardState)
    → AreCutAsArmed armed c steps ok t → Decides armed c steps ok t.content t.armed
told-decides None c steps ok t told = told
told-decides (Some cut) c steps ok t told = record { answer = told.answer; left = told.content; next = told.armed }

module _ {B : Type 0} (state : B → BoardState) (history : B → List Step → Type 0) where
  -- the machine that the parts stand for in this place
  abbrev machine_at : Parts B → MachineView → StateView → MachineView
  machine_at p m place = record {
    content = (state p.board).content;
    armed = (state p.board).armed;
    cpu = m.cpu;
    place = place;
  }

  no-steps : (board : B) (steps : List Step) → steps ≡ [] → Extends history board steps board
  no-steps board steps none = λ h done. subst (λ xs. history board (h ++ xs)) (sym none)
      (subst (history board) (sym (append-nil h)) done)

  idle-step : (old new : Parts B) (m : MachineView) (event : EventView) (e : Effect) (outcome : EventOutcome)
      → effect m event ≡ e → armed_for m.armed event ≡ m.armed → Stands state old m
      → IsIdle state history old e new outcome → IsStep state history old m event new outcome
  idle-step old new m event e outcome is armed stands idle = record {
    next = record { content = m.content; armed = m.armed; cpu = m.cpu; place = e.place };
    moves = inl (record {
      content = ap (after_all m.content) (sym none);
      armed_cut = subst (λ a. Decides a m.content (effect m event).steps true m.content m.armed) (sym armed)
          (subst (λ steps. Decides m.armed m.content steps true m.content m.armed) (sym none)
          (none-decided m.armed m.content));
      cpu = refl;
      place = ap (λ (x : Effect). x.place) (sym is);
      told = idle.told ∙ ap (λ (x : Effect). x.outcome) (sym is);
    });
    stands = record {
      content = stands.content ∙ ap (λ (p : Parts B). (state p.board).content) (sym idle.same);
      armed = stands.armed ∙ ap (λ (p : Parts B). (state p.board).armed) (sym idle.same);
      cpu = stands.cpu ∙ ap (λ (p : Parts B). p.cpu) (sym idle.same);
      place = idle.place;
    };
    later = subst (λ (p : Parts B). (state old.board).cuts ≤ (state p.board).cuts) (sym idle.same) (omega arith);
    recorded = λ other. subst (λ (p : Parts B). Extends history old.board (effect m event).steps p.board)
        (sym idle.same) (no-steps old.board (effect m event).steps none);
    lost = λ same. absurd (not-lost m event (ap (λ (x : Effect). x.outcome) is ∙ sym idle.told ∙ same));
  }
    where
      none : (effect m event).steps ≡ []
      none = ap (λ (x : Effect). x.steps) is ∙ idle.none

  by-step : (old new : Parts B) (m : MachineView) (event : EventView) (outcome : EventOutcome) (ok : Bool)
      → armed_for m.armed event ≡ m.armed → Stands state old m
      → IsBy state history old (effect m event) ok new outcome → IsStep state history old m event new outcome
  by-step old new m event outcome true armed stands by = record {
    next = machine_at new m (effect m event).place;
    moves = inl (record {
      content = by.board.done ∙ ap (λ c. after_all c (effect m event).steps) (sym stands.content);
      armed_cut = subst (λ a. Decides a m.content (effect m event).steps true (state new.board).content
          (state new.board).armed) (sym (armed ∙ stands.armed))
          (subst (λ c. Decides (state old.board).armed c (effect m event).steps true (state new.board).content
          (state new.board).armed) (sym stands.content)
          (told-decides (state old.board).armed (state old.board).content (effect m event).steps true (state new.board)
          by.board.told));
      cpu = refl;
      place = refl;
      told = by.told;
    });
    stands = record { content = refl; armed = refl; cpu = stands.cpu ∙ sym by.cpu; place = by.place };
    later = by.board.later;
    recorded = λ other. by.board.recorded;
    lost = λ same. absurd (not-lost m event (sym by.told ∙ same));
  }
  by-step old new m event outcome false armed stands by = record {
    next = machine_at new m Off;
    moves = inr (record {
      content = subst (λ c. CutOf c (effect m event).steps (state new.board).content) (sym stands.content)
          by.board.torn;
      armed_cut = subst (λ a. Decides a m.content (effect m event).steps false (state new.board).content
          (state new.board).armed) (sym (armed ∙ stands.armed))
          (subst (λ c. Decides (state old.board).armed c (effect m event).steps false (state new.board).content
          (state new.board).armed) (sym stands.content)
          (told-decides (state old.board).armed (state old.board).content (effect m event).steps false (state new.board)
          by.board.told));
      cpu = refl;
      place = refl;
      told = by.lost;
    });
    stands = record { content = refl; armed = refl; cpu = stands.cpu ∙ sym by.cpu; place = by.off };
    later = by.board.later;
    recorded = λ other. absurd (other by.lost);
    lost = λ same. record { off = by.off; power = by.board.power; rose = by.board.rose };
  }

  -- what the parts did is the move of the event
  pub step-of : (old new : Parts B) (m : MachineView) (event : EventView) (outcome : EventOutcome)
      → effect m event ≡ effect_in m.content m.cpu m.place event → armed_for m.armed event ≡ m.armed
      → Stands state old m
      → IsIdle state history old (effect_in m.content m.cpu m.place event) new outcome
      ⊎ Comes state history old (effect_in m.content m.cpu m.place event) new outcome
      → IsStep state history old m event new outcome
  step-of old new m event outcome is armed stands (inl idle) =
      idle-step old new m event (effect_in m.content m.cpu m.place event) outcome is armed stands idle
  step-of old new m event outcome is armed stands (inr comes) =
      by-step old new m event outcome (comes.0) armed stands
      (subst (λ e. IsBy state history old e (comes.0) new outcome) (sym is) (comes.1))

  -- an event that is told and does nothing
  pub told-step : (old : Parts B) (m : MachineView) (event : EventView) (e : Effect) (outcome : EventOutcome)
      → effect m event ≡ e → armed_for m.armed event ≡ m.armed → e.steps ≡ [] → e.place ≡ m.place → outcome ≡ e.outcome
      → Stands state old m → IsStep state history old m event old outcome
  told-step old m event e outcome is armed none place told stands =
      idle-step old old m event e outcome is armed stands
      (record { same = refl; none = none; place = subst (StandsAt old) (sym place) stands.place; told = told })

  -- another board changes nothing of the place
  stands-board : (p : Parts B) (board : B) (place : StateView) → StandsAt p place → StandsAt (with_board p board) place
  stands-board p board Off is = is
  stands-board p board (InBootsel host) is =
      record { state = is.state; found = is.found; placing = is.placing; ram = is.ram }
  stands-board p board (Running (FromFlash choice)) is = record { state = is.state; membership = is.membership }
  stands-board p board (Running (FromRam image)) is = record { state = is.state; membership = is.membership }

  armed-decides : (armed : Option (Option Cut)) (c : Content) (cut : Cut)
      → Decides (option_map (λ former. Some cut) armed) c [] true c (option_map (λ former. Some cut) armed)
  armed-decides armed c cut = none-decided (option_map (λ former. Some cut) armed) c

  -- a cut is armed
  pub arm-step : (old : Parts B) (board : B) (m : MachineView) (left : ℕ) (within : Bool) (pattern : List ℕ)
      (outcome : EventOutcome)
      → Becomes state history old.board
      (with_cut (state old.board) (record { left = left; within = within; pattern = pattern })) board
      → outcome ≡ event_outcomes.CutArmed → Stands state old m
      → IsStep state history old m (EventView.Cut left within pattern) (with_board old board) outcome
  arm-step old board m left within pattern outcome becomes told stands =
      let cut : Cut = record { left = left; within = within; pattern = pattern } in record {
        next = record {
          content = m.content;
          armed = option_map (λ former. Some cut) m.armed;
          cpu = m.cpu;
          place = m.place;
        };
        moves = inl (record {
          content = refl;
          armed_cut = armed-decides m.armed m.content cut;
          cpu = refl;
          place = refl;
          told = told;
        });
        stands = record {
          content = stands.content ∙ ap (λ (s : BoardState). s.content) (sym becomes.same);
          armed = ap (option_map (λ former. Some cut)) stands.armed
              ∙ ap (λ (s : BoardState). s.armed) (sym becomes.same);
          cpu = stands.cpu;
          place = stands-board old board m.place stands.place;
        };
        later = subst (λ (s : BoardState). (state old.board).cuts ≤ s.cuts) (sym becomes.same) (omega arith);
        recorded = λ other h done. subst (history board) (sym (append-nil h)) (becomes.recorded h done);
        lost = λ same. absurd (not-lost m (EventView.Cut left within pattern) (sym told ∙ same));
      }

  -- the parts stay steady
  pub arm-steady : (old : Parts B) (board : B) (left : ℕ) (within : Bool) (pattern : List ℕ)
      → Becomes state history old.board
      (with_cut (state old.board) (record { left = left; within = within; pattern = pattern })) board
      → IsSteady state old → IsSteady state (with_board old board)
  arm-steady old board left within pattern becomes steady = record {
    power = λ on. subst (λ (s : BoardState). IsTrue s.powered) (sym becomes.same) (steady.power on);
    room = steady.room;
    target = λ current is. subst (λ c. IsTargetIn (length c.flash) current.target) same (steady.target current is);
    carries = steady.carries;
    idle = steady.idle;
    found = λ on f is. subst (λ c. IsSoundTable f.table (length c.flash / 4096)) same (steady.found on f is);
    held = λ choice run. subst (λ c. IsHeldChoice c old.cpu choice) same
        (steady.held choice (record { state = run.state; membership = run.membership }));
  }
    where
      same : (state old.board).content ≡ (state board).content
      same = ap (λ (s : BoardState). s.content) (sym becomes.same)

-- every event but a cut and the end is by the state
pub plain-event : (m : MachineView) (event : Event) → event ≢ events.End
    → ((left : ℕ) (within : Bool) (pattern : Bor (List ℕ)) → event ≢ events.Cut left within pattern)
    → (effect m (event_from event) ≡ effect_in m.content m.cpu m.place (event_from event))
    × (armed_for m.armed (event_from event) ≡ m.armed)
plain-event m events.End not_end not_cut = absurd (not_end refl)
plain-event m (events.Cut left within pattern) not_end not_cut = absurd (not_cut left within pattern refl)
plain-event m (events.Command command payload) not_end not_cut = (refl, refl)
plain-event m (events.Uf2 block) not_end not_cut = (refl, refl)
plain-event m events.PowerOn not_end not_cut = (refl, refl)
plain-event m (events.Reset kind) not_end not_cut = (refl, refl)
plain-event m events.Buy not_end not_cut = (refl, refl)
