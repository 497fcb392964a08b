-- The steps of a host's script stand together in its trace, behind raises. So each program of them follows an erase of
-- its sector where each program of the trace does.
use Rattle.std.proofs.Common.{◌≡◌, ℕ, ◌+◌, ◌/◌, true, cond, List, [], ◌∷◌, ◌++◌, length, Option, Some, None, refl, sym, ap, ◌∙◌, subst, arith, append_assoc, length-append}
use Rattle.std.specs.List.{AllByRecursion}
use Rattle.std.proofs.lemmas.List.{append-nil, map-append}
use Rattle.pico_board.specs.declared.Step.{Step}
use Rattle.pico_board.specs.declared.step.Step.TheVariants as board
use Rattle.pico_board.specs.declared.boot.Cpu.{Cpu}
use Rattle.pico_board.specs.declared.boot.BootKind.{BootKind}
use Rattle.pico_board.specs.declared.boot.BootKind.TheVariants.{Normal, Bootsel}
use Rattle.pico_board.specs.Content.{Content}
use Rattle.pico_board.specs.Steps.{IsRaise, after, after_all}
use Rattle.boot_rules.specs.declared.decision.Decision.{Decision}
use Rattle.boot_rules.specs.declared.decision.Decision.TheVariants.{Start, Bootsel as Falls}
use Rattle.boot_rules.specs.Choosing.{decision_in}
use Rattle.boot_script.specs.Events.{EventView}
use Rattle.boot_machine.specs.Boots.{Effect, booted, decided_place, entered}
use Rattle.boot_machine.specs.Machines.{Host, MachineView, StateView, Off, InBootsel, Running}
use Rattle.boot_machine.specs.Moves.{armed_for, effect, reset}
use Rattle.boot_machine.specs.Serving.{ServedEvent, followed, followed_by, is_hosted, served_event}
use Rattle.boot_machine.specs.Plays.{moved_machine, powerless}
use Rattle.boot_session.specs.Sessions.{entered_host, going_on, session_from}
use Rattle.boot_tape.specs.Traces.{Traced, event_steps, trace, trace_steps, traced, traced_from}
use Rattle.check_laws.specs.Hosts.{AreServed, IsHosts, first_content, is_own}
use Rattle.check_laws.specs.SessionLaws.{host_steps}
use Rattle.check_laws.proofs.HostLemmas.{own-apart}
use Rattle.check_laws.proofs.ShortLemmas.{moved-whole, steps-whole, unarmed}
use Rattle.check_records.specs.Unerased.{IsUnerased}
use Rattle.law_updates.proofs.BootRowLemmas.{boot-raises}

-- the steps that a machine completes, on whose board no cut is armed
abbrev done : Content → Cpu → StateView → List EventView → List Step
done c cpu place events = trace_steps (traced (unarmed c cpu place) events)

steps-from : (c : Content) (steps : List Step) → trace_steps (traced_from c steps) ≡ steps
steps-from c [] = refl
steps-from c (step ∷ steps) = ap (λ xs. step ∷ xs) (steps-from (after c step) steps)

-- the steps of an event, and those of the events behind it
done-first : (c : Content) (cpu : Cpu) (place : StateView) (event : EventView) (events : List EventView)
    → armed_for (Some None) event ≡ Some None
    → done c cpu place (event ∷ events) ≡ (let e = effect (unarmed c cpu place) event in
    e.steps ++ done (after_all c e.steps) cpu e.place events)
done-first c cpu place event events keeps =
    let m = unarmed c cpu place in
    map-append (λ (t : Traced). t.step) (traced_from c (event_steps m event)) (traced (moved_machine m event).next events)
    ∙ (ap (λ xs. xs ++ trace_steps (traced (moved_machine m event).next events))
    (steps-from c (event_steps m event) ∙ steps-whole c cpu place event keeps)
    ∙ ap (λ (n : MachineView). (effect m event).steps ++ trace_steps (traced n events))
    (moved-whole c cpu place event keeps))

-- the list begins with these steps
pub record BeginsWith (first whole : List Step) : Type 0 where
  pub rest : List Step
  pub same : whole ≡ first ++ rest

-- no host's event is left
none-hosted : (c : Content) (cpu : Cpu) (host : Host) (events : List EventView)
    → AllByRecursion (λ (event : EventView). is_own event ≡ true) events → session_from c cpu host events ≡ []
none-hosted c cpu host [] all = refl
none-hosted c cpu host (event ∷ events) all =
    ap (λ b. cond b (let s = served_event c cpu host event in s.steps
    ++ going_on (λ next. session_from (after_all c s.steps) cpu next events) s.boot s.place)
    (session_from c cpu host events)) (own-apart event all.0)
    ∙ none-hosted c cpu host events all.1

-- the steps of a host's event and of those behind it
module _ (c : Content) (cpu : Cpu) (s : ServedEvent) (events : List EventView) where
  abbrev ahead : Option BootKind → StateView → List Step
  ahead boot place = s.steps ++ going_on (λ next. session_from (after_all c s.steps) cpu next events) boot place

  abbrev all : Option BootKind → List Step
  all boot =
      let e = followed_by c cpu s boot in e.steps ++ done (after_all c e.steps) cpu e.place events

  ends : BeginsWith (s.steps ++ []) (s.steps ++ done (after_all c s.steps) cpu s.place events)
  ends = record {
    rest = done (after_all c s.steps) cpu s.place events;
    same = ap (λ xs. xs ++ done (after_all c s.steps) cpu s.place events) (sym (append-nil s.steps));
  }

  stays : (place : StateView) → s.place ≡ place
      → ((host : Host) → place ≡ InBootsel host
      → BeginsWith (session_from (after_all c s.steps) cpu host events) (done (after_all c s.steps) cpu place events))
      → BeginsWith (ahead None place) (all None)
  stays Off is more = ends
  stays (Running program) is more = ends
  stays (InBootsel host) is more =
      let b = more host refl in record {
        rest = b.rest;
        same =
            ap (λ (p : StateView). s.steps ++ done (after_all c s.steps) cpu p events) is
            ∙ (ap (λ xs. s.steps ++ xs) b.same
            ∙ sym (append_assoc s.steps (session_from (after_all c s.steps) cpu host events) b.rest));
      }

  boots : (kind : BootKind) → BeginsWith (s.steps ++ []) (all (Some kind))
  boots kind =
      let boot = booted (after_all c s.steps) cpu kind (Some s.outcome) in
      let e = followed_by c cpu s (Some kind) in
      let rest = done (after_all c e.steps) cpu e.place events in record {
        rest = boot.steps ++ rest;
        same =
            append_assoc s.steps boot.steps rest
            ∙ ap (λ xs. xs ++ (boot.steps ++ rest)) (sym (append-nil s.steps));
      }

  by-boot : (boot : Option BootKind) → s.boot ≡ boot
      → ((host : Host) → s.place ≡ InBootsel host
      → BeginsWith (session_from (after_all c s.steps) cpu host events) (done (after_all c s.steps) cpu s.place events))
      → BeginsWith (ahead boot s.place) (all boot)
  by-boot None is more = stays s.place refl more
  by-boot (Some kind) is more = boots kind

hosted-keeps : (event : EventView) → is_hosted event ≡ true → armed_for (Some None) event ≡ Some None
hosted-keeps EventView.End is = cc
hosted-keeps (EventView.Command command payload) is = refl
hosted-keeps (EventView.Uf2 block) is = refl
hosted-keeps (EventView.Cut left within pattern) is = cc
hosted-keeps EventView.PowerOn is = cc
hosted-keeps (EventView.Reset kind) is = cc
hosted-keeps EventView.Buy is = cc

hosted-effect : (c : Content) (cpu : Cpu) (host : Host) (event : EventView) → is_hosted event ≡ true
    → effect (unarmed c cpu (InBootsel host)) event ≡ followed c cpu (served_event c cpu host event)
hosted-effect c cpu host EventView.End is = cc
hosted-effect c cpu host (EventView.Command command payload) is = refl
hosted-effect c cpu host (EventView.Uf2 block) is = refl
hosted-effect c cpu host (EventView.Cut left within pattern) is = cc
hosted-effect c cpu host EventView.PowerOn is = cc
hosted-effect c cpu host (EventView.Reset kind) is = cc
hosted-effect c cpu host EventView.Buy is = cc

-- the steps of the events of a host come first
host-first : (c : Content) (cpu : Cpu) (host : Host) (asked : Option BootKind) (hosted own : List EventView)
    → AreServed c cpu (InBootsel host) asked hosted
    → AllByRecursion (λ (event : EventView). is_own event ≡ true) own
    → BeginsWith (session_from c cpu host (hosted ++ own)) (done c cpu (InBootsel host) (hosted ++ own))
host-first c cpu host asked [] own served rest = record {
  rest = done c cpu (InBootsel host) own;
  same = ap (λ xs. xs ++ done c cpu (InBootsel host) own) (sym (none-hosted c cpu host own rest));
}
host-first c cpu host asked (event ∷ hosted) own served rest =
    let s = served_event c cpu host event in
    let es = hosted ++ own in
    let b = by-boot c cpu s es s.boot refl (λ next is.
    subst (λ (p : StateView). BeginsWith (session_from (after_all c s.steps) cpu next es)
    (done (after_all c s.steps) cpu p es)) (sym is)
    (host-first (after_all c s.steps) cpu next s.boot hosted own
    (subst (λ (p : StateView). AreServed (after_all c s.steps) cpu p s.boot hosted) is served.2) rest)) in
    let first : session_from c cpu host (event ∷ es) ≡ ahead c cpu s es s.boot s.place =
    ap (λ b. cond b (ahead c cpu s es s.boot s.place) (session_from c cpu host es)) served.0 in
    let whole : done c cpu (InBootsel host) (event ∷ es) ≡ all c cpu s es s.boot =
    done-first c cpu (InBootsel host) event es (hosted-keeps event served.0)
    ∙ ap (λ (e : Effect). e.steps ++ done (after_all c e.steps) cpu e.place es)
    (hosted-effect c cpu host event served.0) in
    record { rest = b.rest; same = whole ∙ (b.same ∙ ap (λ xs. xs ++ b.rest) (sym first)) }

-- power that comes back, and the reset to BOOTSEL
reset-effect : (d c : Content) (cpu : Cpu) (decision : Decision)
    → effect (unarmed d cpu (decided_place c decision)) (EventView.Reset Bootsel) ≡ reset d cpu Bootsel
reset-effect d c cpu (Start choice) = refl
reset-effect d c cpu (Falls fall) = refl

entered-by : (d : Content) (cpu : Cpu) → reset d cpu Bootsel ≡ (record {
  steps = [];
  place = entered d;
  outcome = (reset d cpu Bootsel).outcome;
})
unfolding decision_in
entered-by d cpu = refl

done-script : (c : Content) (cpu : Cpu) (events : List EventView)
    → done c cpu Off (EventView.PowerOn ∷ (EventView.Reset Bootsel ∷ events))
    ≡ (booted c cpu Normal None).steps ++ done (first_content c cpu) cpu (entered (first_content c cpu)) events
done-script c cpu events =
    let c1 = first_content c cpu in
    let place = decided_place c (decision_in c cpu Normal) in
    done-first c cpu Off EventView.PowerOn (EventView.Reset Bootsel ∷ events) refl
    ∙ ap (λ xs. (booted c cpu Normal None).steps ++ xs)
    (done-first c1 cpu place (EventView.Reset Bootsel) events refl
    ∙ ap (λ (e : Effect). e.steps ++ done (after_all c1 e.steps) cpu e.place events)
    (reset-effect c1 c cpu (decision_in c cpu Normal) ∙ entered-by c1 cpu))

-- a program that no step before it makes good, in a longer list
bare-raises : (sector : ℕ) (raises before : List Step) → AllByRecursion IsRaise raises
    → AllByRecursion (λ (step : Step). step ≡ board.Erase sector → ⊥) before
    → AllByRecursion (λ (step : Step). step ≡ board.Erase sector → ⊥) (raises ++ before)
bare-raises sector [] before all bare = bare
bare-raises sector (board.Raise r b ∷ raises) before all bare =
    (λ is. cc, bare-raises sector raises before all.1 bare)
bare-raises sector (board.Erase s ∷ raises) before all bare = absurd all.0
bare-raises sector (board.Program p d ∷ raises) before all bare = absurd all.0

unerased-within : (raises steps rest : List Step) (k : ℕ) → AllByRecursion IsRaise raises → IsUnerased steps k
    → IsUnerased (raises ++ (steps ++ rest)) (length raises + k)
unerased-within raises steps rest k all u = record {
  before = raises ++ u.before;
  page = u.page;
  bytes = u.bytes;
  behind = u.behind ++ rest;
  whole =
      ap (λ xs. raises ++ (xs ++ rest)) u.whole
      ∙ (ap (λ xs. raises ++ xs) (append_assoc u.before (board.Program u.page u.bytes ∷ u.behind) rest)
      ∙ sym (append_assoc raises u.before (board.Program u.page u.bytes ∷ (u.behind ++ rest))));
  number = let sum = length-append raises u.before in let same = u.number in omega (arith, sum, same);
  bare = bare-raises (u.page / 16) raises u.before all u.bare;
}

-- so it is a step of the trace
pub host-erased : (c : Content) (cpu : Cpu) (events : List EventView) → IsHosts c cpu events
    → ((k : ℕ) → IsUnerased (trace_steps (trace c cpu events).done) k → ⊥)
    → (k : ℕ) → IsUnerased (host_steps c cpu events) k → ⊥
host-erased c cpu events h none k u =
    let c1 = first_content c cpu in
    let es = h.hosted ++ h.own in
    let raises = (booted c cpu Normal None).steps in
    let b = host-first c1 cpu (entered_host c1) None h.hosted h.own h.served h.rest in
    let whole : trace_steps (trace c cpu events).done ≡ raises ++ (session_from c1 cpu (entered_host c1) es ++ b.rest) =
    ap (λ xs. trace_steps (traced (powerless c cpu) xs)) h.whole
    ∙ (done-script c cpu es ∙ ap (λ xs. raises ++ xs) b.same) in
    let here = subst (λ xs. IsUnerased (host_steps c cpu xs) k) h.whole u in
    none (length raises + k) (subst (λ xs. IsUnerased xs (length raises + k)) (sym whole)
    (unerased-within raises (session_from c1 cpu (entered_host c1) es) b.rest k (boot-raises c cpu) here))
