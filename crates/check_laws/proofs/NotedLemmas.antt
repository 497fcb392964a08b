-- A host's script, by what is noted of its events and by its moves: whether it is one, the content that
-- its first boot leaves, the steps of its host, and its law.
use Rattle.std.proofs.Common.{◌≡◌, ℕ, ◌+◌, ◌<◌, Bool, true, false, cond, List, [], ◌∷◌, ◌++◌, length, get_or, take, drop, Option, Some, None, refl, sym, ap, ◌∙◌, inl, inr, subst}
use Rattle.std.specs.Prelude.{◌&&◌, is_none, is_some, not, ◌↔◌}
use Rattle.std.proofs.lemmas.List.{drop_more}
use Rattle.std.proofs.Math.Seq.{drop-append_seam, take-append_seam}
use Rattle.pico_board.specs.declared.Step.{Step}
use Rattle.pico_board.specs.declared.boot.Cpu.{Cpu}
use Rattle.pico_board.specs.declared.boot.BootKind.{BootKind}
use Rattle.pico_board.specs.declared.boot.BootKind.TheVariants.{Normal, Bootsel, Update}
use Rattle.pico_board.specs.Content.{Content}
use Rattle.pico_board.specs.Steps.{after_all}
use Rattle.boot_rules.specs.declared.decision.Decision.{Decision}
use Rattle.boot_rules.specs.declared.decision.Decision.TheVariants.{Start, Bootsel as Falls}
use Rattle.boot_rules.specs.Choosing.{decision_in}
use Rattle.boot_script.specs.Events.{EventView}
use Rattle.boot_machine.specs.Boots.{Effect, decided_place, entered}
use Rattle.boot_machine.specs.Machines.{Host, MachineView, StateView, Off, InBootsel, Running}
use Rattle.boot_machine.specs.Moves.{armed_for, effect, reset}
use Rattle.boot_machine.specs.Serving.{followed, followed_by, is_hosted, served_event}
use Rattle.boot_machine.specs.Plays.{moved_machine, powerless, told_cut}
use Rattle.boot_session.specs.Sessions.{going_on, session_from}
use Rattle.boot_sweep.specs.declared.moves.Move.{Move}
use Rattle.boot_tape.specs.declared.notes.Note.{Note}
use Rattle.boot_tape.specs.CutMoves.{cut_moves}
use Rattle.boot_tape.specs.Moving.{after_moves, done_steps, moves_from}
use Rattle.boot_tape.specs.Traces.{behind, behind_asked, event_moves, moves_in, note_of, noted, own_moves, own_steps}
use Rattle.boot_tape.proofs.NoteLemmas.{own-moves}
use Rattle.check_laws.specs.declared.found.SessionFound.{SessionFound}
use Rattle.check_laws.specs.declared.found.SessionFound.TheVariants as found
use Rattle.check_laws.specs.declared.found.Reason.TheVariants as reasons
use Rattle.check_laws.specs.Hosting.{are_hosts, boot_count, ends, fits, host_done, hosted_events, hosting, is_hosted_on, is_noted}
use Rattle.boot_tape.specs.Doers.{is_boot}
use Rattle.check_laws.specs.Hosts.{AreServed, IsHosts, first_content, served_at, HostWrites}
use Rattle.check_laws.specs.SessionLaws.{host_steps, IsSessionLaw, IsStepsLaw, IsWritten}
use Rattle.check_laws.proofs.HostLemmas.{AreOwn, hosted-is, own-apart, hosts-is, is-hosts}
use Rattle.check_laws.proofs.MadeLemmas.{next-content, none-own}
use Rattle.check_laws.proofs.ShortLemmas.{moved-whole, unarmed}
use Rattle.check_laws.proofs.PassLemmas.{front-from}

asked-is : (asked : Option BootKind) → is_boot (behind_asked asked) ≡ is_some asked
asked-is None = refl
asked-is (Some kind) = refl

-- a host's event, wherever it comes: it arms no cut, does what is served and the boot that it asks for,
-- and a boot is noted where it asks for one
hosted-one : (c : Content) (cpu : Cpu) (place : StateView) (event : EventView) → is_hosted event ≡ true
    → (armed_for (Some None) event ≡ Some None)
    × (effect (unarmed c cpu place) event ≡ followed c cpu (served_at c cpu place event))
    × (is_boot (behind (unarmed c cpu place) event) ≡ is_some (served_at c cpu place event).boot)
    × (own_steps (unarmed c cpu place) event ≡ (served_at c cpu place event).steps)
hosted-one c cpu Off (EventView.Command command payload) is = (refl, refl, refl, refl)
hosted-one c cpu (Running program) (EventView.Command command payload) is = (refl, refl, refl, refl)
hosted-one c cpu (InBootsel host) (EventView.Command command payload) is =
    (refl, refl, asked-is (served_event c cpu host (EventView.Command command payload)).boot, refl)
hosted-one c cpu Off (EventView.Uf2 block) is = (refl, refl, refl, refl)
hosted-one c cpu (Running program) (EventView.Uf2 block) is = (refl, refl, refl, refl)
hosted-one c cpu (InBootsel host) (EventView.Uf2 block) is =
    (refl, refl, asked-is (served_event c cpu host (EventView.Uf2 block)).boot, refl)
hosted-one c cpu place EventView.End is = cc
hosted-one c cpu place (EventView.Cut left within pattern) is = cc
hosted-one c cpu place EventView.PowerOn is = cc
hosted-one c cpu place (EventView.Reset kind) is = cc
hosted-one c cpu place EventView.Buy is = cc

-- the machine behind one that asks for no boot
hosted-next : (c : Content) (cpu : Cpu) (place : StateView) (event : EventView) → is_hosted event ≡ true
    → (served_at c cpu place event).boot ≡ None
    → (moved_machine (unarmed c cpu place) event).next
    ≡ unarmed (after_all c (served_at c cpu place event).steps) cpu (served_at c cpu place event).place
hosted-next c cpu place event is none =
    moved-whole c cpu place event (hosted-one c cpu place event is).0
    ∙ ap (λ (e : Effect). unarmed (after_all c e.steps) cpu e.place)
    ((hosted-one c cpu place event is).1 ∙ ap (followed_by c cpu (served_at c cpu place event)) none)

shut : (a b : Bool) → a ≡ false → false ≡ (a && b)
shut a b is = sym (ap (λ x. x && b) is)

-- whether the events are a host's, where those of the host are over
over-noted : (m : MachineView) (c : Content) (cpu : Cpu) (place : StateView) (asked : Option BootKind) (over : Bool)
    (events : List EventView) → (not over && is_none asked) ≡ false
    → are_hosts true events (noted m events) ≡ hosting c cpu place asked over events
over-noted m c cpu place asked over [] waits = refl
over-noted m c cpu place asked over (EventView.End ∷ events) waits = refl
over-noted m c cpu place asked over (EventView.Command command payload ∷ events) waits =
    shut _ _ waits
over-noted m c cpu place asked over (EventView.Uf2 block ∷ events) waits =
    shut _ _ waits
over-noted m c cpu place asked over (EventView.Cut left within pattern ∷ events) waits = refl
over-noted m c cpu place asked over (EventView.PowerOn ∷ events) waits = refl
over-noted m c cpu place asked over (EventView.Reset Normal ∷ events) waits =
    over-noted (moved_machine m (EventView.Reset Normal)).next c cpu place asked true events refl
over-noted m c cpu place asked over (EventView.Reset Bootsel ∷ events) waits = refl
over-noted m c cpu place asked over (EventView.Reset (Update base) ∷ events) waits = refl
over-noted m c cpu place asked over (EventView.Buy ∷ events) waits =
    over-noted (moved_machine m EventView.Buy).next c cpu place asked true events refl

-- the events behind one of a host
one-noted : (c : Content) (cpu : Cpu) (place : StateView) (event : EventView) (events : List EventView)
    → is_hosted event ≡ true
    → ((d : Content) (here : StateView)
    → are_hosts false events (noted (unarmed d cpu here) events) ≡ hosting d cpu here None false events)
    → are_hosts (is_boot (behind (unarmed c cpu place) event)) events
    (noted (moved_machine (unarmed c cpu place) event).next events)
    ≡ (let s = served_at c cpu place event in hosting (after_all c s.steps) cpu s.place s.boot false events)
one-noted c cpu place event events is rest = go (served_at c cpu place event).boot refl
  where
    next : MachineView
    next = (moved_machine (unarmed c cpu place) event).next

    d : Content
    d = after_all c (served_at c cpu place event).steps

    here : StateView
    here = (served_at c cpu place event).place

    go : (boot : Option BootKind) → (served_at c cpu place event).boot ≡ boot
        → are_hosts (is_boot (behind (unarmed c cpu place) event)) events (noted next events)
        ≡ hosting d cpu here (served_at c cpu place event).boot false events
    go None none =
        ap (λ b. are_hosts b events (noted next events)) ((hosted-one c cpu place event is).2 ∙ ap is_some none)
        ∙ (ap (λ (m : MachineView). are_hosts false events (noted m events)) (hosted-next c cpu place event is none)
        ∙ (rest d here ∙ ap (λ o. hosting d cpu here o false events) (sym none)))
    go (Some kind) some =
        ap (λ b. are_hosts b events (noted next events)) ((hosted-one c cpu place event is).2 ∙ ap is_some some)
        ∙ (over-noted next d cpu here (Some kind) false events refl
        ∙ ap (λ o. hosting d cpu here o false events) (sym some))

all-noted : (c : Content) (cpu : Cpu) (place : StateView) (events : List EventView)
    → are_hosts false events (noted (unarmed c cpu place) events) ≡ hosting c cpu place None false events
all-noted c cpu place [] = refl
all-noted c cpu place (EventView.End ∷ events) = refl
all-noted c cpu place (EventView.Command command payload ∷ events) =
    one-noted c cpu place (EventView.Command command payload) events refl (λ d here. all-noted d cpu here events)
all-noted c cpu place (EventView.Uf2 block ∷ events) =
    one-noted c cpu place (EventView.Uf2 block) events refl (λ d here. all-noted d cpu here events)
all-noted c cpu place (EventView.Cut left within pattern ∷ events) = refl
all-noted c cpu place (EventView.PowerOn ∷ events) = refl
all-noted c cpu place (EventView.Reset Normal ∷ events) =
    over-noted (moved_machine (unarmed c cpu place) (EventView.Reset Normal)).next c cpu place None true events refl
all-noted c cpu place (EventView.Reset Bootsel ∷ events) = refl
all-noted c cpu place (EventView.Reset (Update base) ∷ events) = refl
all-noted c cpu place (EventView.Buy ∷ events) =
    over-noted (moved_machine (unarmed c cpu place) EventView.Buy).next c cpu place None true events refl

-- the machine behind the first two events of a host's script
reset-effect : (d c : Content) (cpu : Cpu) (decision : Decision)
    → effect (unarmed d cpu (decided_place c decision)) (EventView.Reset Bootsel) ≡ reset d cpu Bootsel
reset-effect d c cpu (Start choice) = refl
reset-effect d c cpu (Falls fall) = refl

entered-by : (d : Content) (cpu : Cpu) → reset d cpu Bootsel ≡ (record {
  steps = [];
  place = entered d;
  outcome = (reset d cpu Bootsel).outcome;
})
unfolding decision_in
entered-by d cpu = refl

abbrev second : Content → Cpu → MachineView
second c cpu = (moved_machine (moved_machine (powerless c cpu) EventView.PowerOn).next (EventView.Reset Bootsel)).next

second-is : (c : Content) (cpu : Cpu)
    → second c cpu ≡ unarmed (first_content c cpu) cpu (entered (first_content c cpu))
second-is c cpu =
    let d = first_content c cpu in
    let place = decided_place c (decision_in c cpu Normal) in
    ap (λ (m : MachineView). (moved_machine m (EventView.Reset Bootsel)).next) (moved-whole c cpu Off EventView.PowerOn refl)
    ∙ (moved-whole d cpu place (EventView.Reset Bootsel) refl
    ∙ ap (λ (e : Effect). unarmed (after_all d e.steps) cpu e.place)
    (reset-effect d c cpu (decision_in c cpu Normal) ∙ entered-by d cpu))

-- whether a script is a host's
pub hosts-noted : (c : Content) (cpu : Cpu) (events : List EventView)
    → is_noted (hosted_events events) (drop 2 (noted (powerless c cpu) events))
    ≡ is_hosted_on (first_content c cpu) cpu (hosted_events events)
hosts-noted c cpu events = go (hosted_events events) refl
  where
    go : (o : Option (List EventView)) → hosted_events events ≡ o
        → is_noted o (drop 2 (noted (powerless c cpu) events)) ≡ is_hosted_on (first_content c cpu) cpu o
    go None is = refl
    go (Some others) is =
        ap (λ es. are_hosts false others (drop 2 (noted (powerless c cpu) es))) (hosted-is events others is)
        ∙ (ap (λ (m : MachineView). are_hosts false others (noted m others)) (second-is c cpu)
        ∙ all-noted (first_content c cpu) cpu (entered (first_content c cpu)) others)

-- the first boot leaves the content on which the host's first event comes
pub first-noted : (c : Content) (cpu : Cpu) (events : List EventView) → IsHosts c cpu events
    → after_moves c (take (boot_count (noted (powerless c cpu) events)) (moves_in (powerless c cpu) events))
    ≡ first_content c cpu
first-noted c cpu events h =
    let m = powerless c cpu in
    let others = moves_in (moved_machine m EventView.PowerOn).next (EventView.Reset Bootsel ∷ (h.hosted ++ h.own)) in
    ap (λ es. after_moves c (take (boot_count (noted m es)) (moves_in m es))) h.whole
    ∙ (ap (after_moves c) (take-append_seam (event_moves m EventView.PowerOn) others)
    ∙ (sym (next-content m EventView.PowerOn)
    ∙ ap (λ (n : MachineView). n.content) (moved-whole c cpu Off EventView.PowerOn refl)))

-- the steps of a host's own that a machine completes in events
abbrev done_in : MachineView → List EventView → List Step
done_in m [] = []
done_in m (event ∷ events) = done_steps (own_moves m event) ++ done_in (moved_machine m event).next events

done-is : (m : MachineView) (events : List EventView) → host_done (noted m events) (moves_in m events) ≡ done_in m events
done-is m [] = refl
done-is m (event ∷ events) =
    let note = note_of m event in
    let mine = event_moves m event in
    let next = (moved_machine m event).next in
    let others = moves_in next events in
    ap (λ ms. done_steps (take note.own ms) ++ host_done (noted next events) (drop note.moves (mine ++ others)))
    (take-append_seam mine others)
    ∙ (ap (λ ms. done_steps (take note.own mine) ++ host_done (noted next events) ms) (drop-append_seam mine others)
    ∙ (ap (λ ms. done_steps ms ++ host_done (noted next events) others) (own-moves m event)
    ∙ ap (λ xs. done_steps (own_moves m event) ++ xs) (done-is next events)))

-- an event for no host has no steps of a host's own
none-done : (m : MachineView) (event : EventView) (events : List EventView) → is_hosted event ≡ false
    → done_in m (event ∷ events) ≡ done_in (moved_machine m event).next events
none-done m event events other =
    ap (λ ms. done_steps ms ++ done_in (moved_machine m event).next events) (none-own m event other)

own-done : (m : MachineView) (events : List EventView) → AreOwn events → done_in m events ≡ []
own-done m [] all = refl
own-done m (event ∷ events) all =
    none-done m event events (own-apart event all.0) ∙ own-done (moved_machine m event).next events all.1

whole-done : (steps : List Step) → done_steps (cut_moves None steps).moves ≡ steps
whole-done [] = refl
whole-done (step ∷ steps) = ap (λ xs. step ∷ xs) (whole-done steps)

hosted-done : (c : Content) (cpu : Cpu) (place : StateView) (event : EventView) → is_hosted event ≡ true
    → done_steps (own_moves (unarmed c cpu place) event) ≡ (served_at c cpu place event).steps
hosted-done c cpu place event is =
    let own = own_steps (unarmed c cpu place) event in
    ap (λ a. done_steps (cut_moves (told_cut a) own).moves) (hosted-one c cpu place event is).0
    ∙ (whole-done own ∙ (hosted-one c cpu place event is).3)

-- the steps of a session in a state
abbrev session_at : Content → Cpu → StateView → List EventView → List Step
session_at c cpu place events = going_on (λ next. session_from c cpu next events) None place

own-session : (c : Content) (cpu : Cpu) (host : Host) (events : List EventView) → AreOwn events
    → session_from c cpu host events ≡ []
own-session c cpu host [] all = refl
own-session c cpu host (event ∷ events) all =
    ap (λ b. cond b (let s = served_event c cpu host event in s.steps
    ++ going_on (λ next. session_from (after_all c s.steps) cpu next events) s.boot s.place)
    (session_from c cpu host events)) (own-apart event all.0)
    ∙ own-session c cpu host events all.1

own-at : (c : Content) (cpu : Cpu) (place : StateView) (events : List EventView) → AreOwn events
    → [] ≡ session_at c cpu place events
own-at c cpu Off events all = refl
own-at c cpu (Running program) events all = refl
own-at c cpu (InBootsel host) events all = sym (own-session c cpu host events all)

-- the steps of an event's own, and those of a session that goes on behind it
abbrev then_session : Content → Cpu → StateView → EventView → List EventView → Option BootKind → List Step
then_session c cpu place event events boot =
    let s = served_at c cpu place event in s.steps
    ++ going_on (λ next. session_from (after_all c s.steps) cpu next events) boot s.place

first-at : (c : Content) (cpu : Cpu) (place : StateView) (event : EventView) (events : List EventView)
    → is_hosted event ≡ true
    → then_session c cpu place event events (served_at c cpu place event).boot ≡ session_at c cpu place (event ∷ events)
first-at c cpu Off event events is = refl
first-at c cpu (Running program) event events is = refl
first-at c cpu (InBootsel host) event events is =
    sym (ap (λ b. cond b (let s = served_event c cpu host event in s.steps
    ++ going_on (λ next. session_from (after_all c s.steps) cpu next events) s.boot s.place)
    (session_from c cpu host events)) is)

session-done : (c : Content) (cpu : Cpu) (place : StateView) (asked : Option BootKind) (hosted own : List EventView)
    → AreServed c cpu place asked hosted → AreOwn own
    → done_in (unarmed c cpu place) (hosted ++ own) ≡ session_at c cpu place (hosted ++ own)
session-done c cpu place asked [] own served rest = own-done (unarmed c cpu place) own rest ∙ own-at c cpu place own rest
session-done c cpu place asked (event ∷ hosted) own served rest =
    let s = served_at c cpu place event in
    let next = (moved_machine (unarmed c cpu place) event).next in
    ap (λ xs. xs ++ done_in next (hosted ++ own)) (hosted-done c cpu place event served.0)
    ∙ (go s.boot refl (session-done (after_all c s.steps) cpu s.place s.boot hosted own served.2 rest)
    ∙ first-at c cpu place event (hosted ++ own) served.0)
  where
    here : Content
    here = after_all c (served_at c cpu place event).steps

    at : StateView
    at = (served_at c cpu place event).place

    last : (m : MachineView) (kind : BootKind) → (served_at c cpu place event).boot ≡ Some kind → (es : List EventView)
        → AreServed here cpu at (served_at c cpu place event).boot es → done_in m (es ++ own) ≡ []
    last m kind is [] all = own-done m own rest
    last m kind is (e ∷ es) all = let none : Some kind ≡ None = sym is ∙ all.1 in cc

    go : (boot : Option BootKind) → (served_at c cpu place event).boot ≡ boot
        → done_in (unarmed here cpu at) (hosted ++ own) ≡ session_at here cpu at (hosted ++ own)
        → (served_at c cpu place event).steps
        ++ done_in (moved_machine (unarmed c cpu place) event).next (hosted ++ own)
        ≡ then_session c cpu place event (hosted ++ own) (served_at c cpu place event).boot
    go None is more =
        ap (λ xs. (served_at c cpu place event).steps ++ xs)
        (ap (λ (m : MachineView). done_in m (hosted ++ own)) (hosted-next c cpu place event served.0 is)
        ∙ more)
        ∙ ap (then_session c cpu place event (hosted ++ own)) (sym is)
    go (Some kind) is more =
        ap (λ xs. (served_at c cpu place event).steps ++ xs)
        (last (moved_machine (unarmed c cpu place) event).next kind is hosted served.2)
        ∙ ap (then_session c cpu place event (hosted ++ own)) (sym is)

-- the steps of the host's events
pub steps-noted : (c : Content) (cpu : Cpu) (events : List EventView) → IsHosts c cpu events
    → host_done (noted (powerless c cpu) events) (moves_in (powerless c cpu) events) ≡ host_steps c cpu events
steps-noted c cpu events h =
    let d = first_content c cpu in
    let m = powerless c cpu in
    let next = (moved_machine m EventView.PowerOn).next in
    let es = h.hosted ++ h.own in
    done-is m events
    ∙ (ap (done_in m) h.whole
    ∙ (none-done m EventView.PowerOn (EventView.Reset Bootsel ∷ es) refl
    ∙ (none-done next (EventView.Reset Bootsel) es refl
    ∙ (ap (λ (n : MachineView). done_in n es) (second-is c cpu)
    ∙ (session-done d cpu (entered d) None h.hosted h.own h.served h.rest
    ∙ sym (ap (host_steps c cpu) h.whole))))))

-- one event more of those that are looked at, which fits or not
pub hosts-more : (over next fit all : Bool) (left others : List EventView) (event : EventView) (notes : List Note)
    (i : ℕ) (note : Note) → i < length notes → note ≡ get_or notes i note → left ≡ event ∷ others
    → fits over event ≡ fit → next ≡ ends event note → are_hosts over left (drop i notes) ≡ all
    → (fit && are_hosts next others (drop (i + 1) notes)) ≡ all
hosts-more over next fit all left others event notes i note lt at first fit_is next_is rest =
    let more = drop (i + 1) notes in
    ap (λ b. fit && are_hosts b others more) next_is
    ∙ (sym (ap (λ es. are_hosts over es (drop i notes)) first
    ∙ (ap (are_hosts over (event ∷ others)) (drop_more notes i note lt ∙ ap (λ n. n ∷ more) (sym at))
    ∙ ap (λ b. b && are_hosts (ends event note) others more) fit_is)) ∙ rest)

pub hosts-end : (over : Bool) (left : List EventView) → true ≡ are_hosts over left []
hosts-end over [] = refl
hosts-end over (event ∷ left) = refl

-- the law of a script, by what the code finds of it
module _ (c : Content) (cpu : Cpu) (events : List EventView) (hosts : Bool)
    (told : hosts ≡ is_hosted_on (first_content c cpu) cpu (hosted_events events)) where
  pub no-host : hosts ≡ false → IsWritten c cpu events (found.Open reasons.Script)
  no-host none =
      inl (λ h. let f : true ≡ false = sym (is-hosts c cpu events h) ∙ (sym told ∙ none) in cc, refl)

  hosted : hosts ≡ true → IsHosts c cpu events
  hosted is = hosts-is c cpu events (sym told ∙ is)

  pub law-written : hosts ≡ true → (law : SessionFound)
      → IsStepsLaw (first_content c cpu) cpu (host_steps c cpu events) law → IsWritten c cpu events law
  law-written is law of = inr (hosted is, of)

-- by the notes and the moves of a trace
module _ (c : Content) (cpu : Cpu) (events : List EventView) (notes : List Note) (moves : List Move)
    (noted_is : notes ≡ noted (powerless c cpu) events) (moves_is : moves_from moves ≡ moves_in (powerless c cpu) events)
    (hosts : Bool) (told : hosts ≡ is_noted (hosted_events events) (drop 2 notes)) where
  hosts-told : hosts ≡ is_hosted_on (first_content c cpu) cpu (hosted_events events)
  hosts-told = told ∙ (ap (λ ns. is_noted (hosted_events events) (drop 2 ns)) noted_is ∙ hosts-noted c cpu events)

  pub no-host-noted : hosts ≡ false → IsWritten c cpu events (found.Open reasons.Script)
  no-host-noted = no-host c cpu events hosts hosts-told

  first-told : IsHosts c cpu events → after_moves c (moves_from (take (boot_count notes) moves)) ≡ first_content c cpu
  first-told h =
      ap (after_moves c) (front-from (boot_count notes) moves)
      ∙ (ap (λ ns. after_moves c (take (boot_count ns) (moves_from moves))) noted_is
      ∙ (ap (λ ms. after_moves c (take (boot_count (noted (powerless c cpu) events)) ms)) moves_is
      ∙ first-noted c cpu events h))

  steps-told : IsHosts c cpu events → host_done notes (moves_from moves) ≡ host_steps c cpu events
  steps-told h =
      ap (λ ns. host_done ns (moves_from moves)) noted_is
      ∙ (ap (host_done (noted (powerless c cpu) events)) moves_is ∙ steps-noted c cpu events h)

  -- the law of the steps that the notes and the moves tell, on what the first boot's moves leave
  pub law-noted : hosts ≡ true → (first : Content) (steps : List Step) (law : SessionFound)
      → first ≡ after_moves c (moves_from (take (boot_count notes) moves))
      → steps ≡ host_done notes (moves_from moves) → IsStepsLaw first cpu steps law → IsWritten c cpu events law
  law-noted is first steps law first_is steps_is of =
      let h = hosted c cpu events hosts hosts-told is in
      law-written c cpu events hosts hosts-told is law
      (subst (λ x. IsStepsLaw x cpu (host_steps c cpu events) law) (first_is ∙ first-told h)
      (subst (λ xs. IsStepsLaw first cpu xs law) (steps_is ∙ steps-told h) of))

pub none-written : (c : Content) (cpu : Cpu) (events : List EventView) (writes : Bool)
    → (writes ≡ true) ↔ HostWrites c cpu events → writes ≡ false → IsSessionLaw c cpu events found.Silent
none-written c cpu events writes exactly none =
    inl (λ h. let f : true ≡ false = sym (exactly.1 h) ∙ none in cc, refl)

pub law-told : (c : Content) (cpu : Cpu) (events : List EventView) (writes : Bool)
    → (writes ≡ true) ↔ HostWrites c cpu events → writes ≡ true → (law : SessionFound) → IsWritten c cpu events law
    → IsSessionLaw c cpu events law
law-told c cpu events writes exactly is law of = inr (exactly.0 is, of)
