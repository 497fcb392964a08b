-- The trace of a script that is one session of a host is that session.
use Rattle.std.proofs.Common.{◌≡◌, Bool, true, false, List, [], ◌∷◌, ◌++◌, Option, Some, None, refl, sym, ap, ◌∙◌, subst, append-nil}
use Rattle.std.specs.Prelude.{if◌then◌else◌, map}
use Rattle.std.proofs.lemmas.Bool.{and_parts}
use Rattle.pico_board.specs.declared.Step.{Step}
use Rattle.pico_board.specs.declared.boot.Cpu.{Cpu}
use Rattle.pico_board.specs.declared.boot.BootKind.{BootKind}
use Rattle.pico_board.specs.declared.boot.BootKind.TheVariants.{Normal, Bootsel, Update}
use Rattle.pico_board.specs.declared.window.Window.{Window}
use Rattle.pico_board.specs.Content.{Content}
use Rattle.pico_board.specs.Cuts.{cut_steps}
use Rattle.pico_board.specs.Steps.{after, after_all}
use Rattle.boot_rules.specs.declared.decision.Decision.{Decision}
use Rattle.boot_rules.specs.declared.decision.Decision.TheVariants as decisions
use Rattle.boot_rules.specs.declared.decision.Fall.TheVariants.{Requested}
use Rattle.boot_rules.specs.Choosing.{decision_in}
use Rattle.boot_rules.proofs.DecisionLemmas.{chosen-decision}
use Rattle.boot_script.specs.Events.{EventView}
use Rattle.boot_machine.specs.Boots.{decided_place, decided_steps, entered}
use Rattle.boot_machine.specs.Machines.{Host, MachineView, Program, StateView, Off, InBootsel, Running}
use Rattle.boot_machine.specs.Moves.{armed_for, effect, reset}
use Rattle.boot_machine.specs.Serving.{followed, followed_by, is_hosted, served_event}
use Rattle.boot_machine.specs.Plays.{Moved, moved_as, moved_machine, played, powerless, told_cut}
use Rattle.boot_machine.proofs.PlayLemmas.{moved-as}
use Rattle.boot_session.specs.Sessions.{going_on, session, session_from}
use Rattle.boot_sweep.specs.Moving.{MoveView, Done}
use Rattle.boot_tape.specs.CutMoves.{cut_moves}
use Rattle.boot_cuts.specs.Tears.{IsLeftTorn, is_left_torn, left_torn}
use Rattle.boot_tape.specs.Traces.{Traced, completed, event_moves, event_steps, moves_in, traced, traced_from}
use Rattle.boot_cuts.proofs.TearLemmas.{torn-exactly}
use Rattle.check_laws.specs.Hosting.{hosted_events}
use Rattle.check_laws.specs.Hosts.{served_at}
use Rattle.law_cuts.specs.Sessions.{Closing, closes_quietly, closing, ends_quietly, is_empty, is_one_session, is_quiet, is_quiet_boot}

-- steps, and then others
traced-then : (c : Content) (xs ys : List Step)
    → traced_from c xs ++ traced_from (after_all c xs) ys ≡ traced_from c (xs ++ ys)
traced-then c [] ys = refl
traced-then c (x ∷ xs) ys =
    ap (λ (ts : List Traced). record { before = c; step = x } ∷ ts) (traced-then (after c x) xs ys)

after-then : (c : Content) (xs ys : List Step) → after_all (after_all c xs) ys ≡ after_all c (xs ++ ys)
after-then c [] ys = refl
after-then c (x ∷ xs) ys = after-then (after c x) xs ys

pub uncut : (steps : List Step) (c : Content)
    → cut_steps steps None c ≡ (record { answer = true; content = after_all c steps; armed = None })
uncut [] c = refl
uncut (step ∷ steps) c = uncut steps (after c step)

-- a machine on whose board no cut is armed
abbrev at : Content → Cpu → StateView → MachineView
at c cpu place = record { content = c; armed = Some None; cpu = cpu; place = place }

-- all of the steps complete
abbrev pub dones : List Step → List MoveView
dones steps = map (λ (step : Step). Done step) steps

done-then : (xs ys : List Step) → dones xs ++ dones ys ≡ dones (xs ++ ys)
done-then [] ys = refl
done-then (x ∷ xs) ys = ap (λ ms. Done x ∷ ms) (done-then xs ys)

pub none-cut : (steps : List Step) → (cut_moves None steps).moves ≡ dones steps
none-cut [] = refl
none-cut (step ∷ steps) = ap (λ ms. Done step ∷ ms) (none-cut steps)

-- in events these steps complete, one after another, and nothing else is left of them
record IsTracedAs (m : MachineView) (events : List EventView) (c : Content) (steps : List Step) : Type 0 where
  pub steps_are : traced m events ≡ traced_from c steps
  pub left : (played m events).last.content ≡ after_all c steps
  pub moves_are : moves_in m events ≡ dones steps

none-traced : (c : Content) (cpu : Cpu) (place : StateView) → IsTracedAs (at c cpu place) [] c []
none-traced c cpu place = record { steps_are = refl; left = refl; moves_are = refl }

-- an event that arms no cut, and then others
event-then : (c : Content) (cpu : Cpu) (place next : StateView) (event : EventView) (events : List EventView)
    (xs ys : List Step) → armed_for (Some None) event ≡ Some None → (effect (at c cpu place) event).steps ≡ xs
    → (effect (at c cpu place) event).place ≡ next
    → IsTracedAs (at (after_all c xs) cpu next) events (after_all c xs) ys
    → IsTracedAs (at c cpu place) (event ∷ events) c (xs ++ ys)
event-then c cpu place next event events xs ys keeps writes leads rest =
    let m = at c cpu place in
    let e = effect m event in
    let did : event_moves m event ≡ dones xs =
    ap (λ a. (cut_moves (told_cut a) e.steps).moves) keeps ∙ (none-cut e.steps ∙ ap dones writes) in
    let done : event_steps m event ≡ xs = ap (λ a. completed (told_cut a) e.steps) keeps ∙ writes in
    let moved : (moved_machine m event).next ≡ at (after_all c xs) cpu next =
    ap (λ (w : Moved). w.next) (moved-as m event None keeps ∙ ap (moved_as m e) (uncut e.steps c))
    ∙ (ap (λ zs. at (after_all c zs) cpu e.place) writes ∙ ap (λ p. at (after_all c xs) cpu p) leads) in
    record {
      steps_are = ap (λ zs. traced_from c zs ++ traced (moved_machine m event).next events) done
          ∙ (ap (λ (n : MachineView). traced_from c xs ++ traced n events) moved
          ∙ (ap (λ ts. traced_from c xs ++ ts) rest.steps_are ∙ traced-then c xs ys));
      left = ap (λ (n : MachineView). (played n events).last.content) moved ∙ (rest.left ∙ after-then c xs ys);
      moves_are = ap (λ ms. ms ++ moves_in (moved_machine m event).next events) did
          ∙ (ap (λ (n : MachineView). dones xs ++ moves_in n events) moved
          ∙ (ap (λ ms. dones xs ++ ms) rest.moves_are ∙ done-then xs ys));
    }

-- what a host's event does in each state
hosted-arms : (event : EventView) → is_hosted event ≡ true → armed_for (Some None) event ≡ Some None
hosted-arms EventView.End is = cc
hosted-arms (EventView.Command command payload) is = refl
hosted-arms (EventView.Uf2 block) is = refl
hosted-arms (EventView.Cut left within pattern) is = cc
hosted-arms EventView.PowerOn is = cc
hosted-arms (EventView.Reset kind) is = cc
hosted-arms EventView.Buy is = cc

in-bootsel : (c : Content) (cpu : Cpu) (host : Host) (event : EventView) → is_hosted event ≡ true
    → effect (at c cpu (InBootsel host)) event ≡ followed c cpu (served_event c cpu host event)
in-bootsel c cpu host EventView.End is = cc
in-bootsel c cpu host (EventView.Command command payload) is = refl
in-bootsel c cpu host (EventView.Uf2 block) is = refl
in-bootsel c cpu host (EventView.Cut left within pattern) is = cc
in-bootsel c cpu host EventView.PowerOn is = cc
in-bootsel c cpu host (EventView.Reset kind) is = cc
in-bootsel c cpu host EventView.Buy is = cc

while-off : (c : Content) (cpu : Cpu) (event : EventView) → is_hosted event ≡ true
    → ((effect (at c cpu Off) event).steps ≡ []) × ((effect (at c cpu Off) event).place ≡ Off)
while-off c cpu EventView.End is = cc
while-off c cpu (EventView.Command command payload) is = (refl, refl)
while-off c cpu (EventView.Uf2 block) is = (refl, refl)
while-off c cpu (EventView.Cut left within pattern) is = cc
while-off c cpu EventView.PowerOn is = cc
while-off c cpu (EventView.Reset kind) is = cc
while-off c cpu EventView.Buy is = cc

while-running : (c : Content) (cpu : Cpu) (program : Program) (event : EventView) → is_hosted event ≡ true
    → ((effect (at c cpu (Running program)) event).steps ≡ [])
    × ((effect (at c cpu (Running program)) event).place ≡ Running program)
while-running c cpu program EventView.End is = cc
while-running c cpu program (EventView.Command command payload) is = (refl, refl)
while-running c cpu program (EventView.Uf2 block) is = (refl, refl)
while-running c cpu program (EventView.Cut left within pattern) is = cc
while-running c cpu program EventView.PowerOn is = cc
while-running c cpu program (EventView.Reset kind) is = cc
while-running c cpu program EventView.Buy is = cc

-- the session from a state on: nothing is served but in BOOTSEL
abbrev session-at : Content → Cpu → StateView → List EventView → List Step
session-at c cpu Off events = []
session-at c cpu (InBootsel host) events = session_from c cpu host events
session-at c cpu (Running program) events = []

session-none : (c : Content) (cpu : Cpu) (place : StateView) → session-at c cpu place [] ≡ []
session-none c cpu Off = refl
session-none c cpu (InBootsel host) = refl
session-none c cpu (Running program) = refl

session-goes : (c : Content) (cpu : Cpu) (place : StateView) (events : List EventView)
    → going_on (λ next. session_from c cpu next events) None place ≡ session-at c cpu place events
session-goes c cpu Off events = refl
session-goes c cpu (InBootsel host) events = refl
session-goes c cpu (Running program) events = refl

session-more : (c : Content) (cpu : Cpu) (host : Host) (event : EventView) (events : List EventView)
    (asked : Option BootKind) → is_hosted event ≡ true → (served_event c cpu host event).boot ≡ asked
    → session_from c cpu host (event ∷ events) ≡ (served_event c cpu host event).steps
    ++ going_on (λ next. session_from (after_all c (served_event c cpu host event).steps) cpu next events) asked
    (served_event c cpu host event).place
session-more c cpu host event events asked hosted asks =
    let s = served_event c cpu host event in
    let rest : Host → List Step = λ next. session_from (after_all c s.steps) cpu next events in
    ap (λ b. if b then s.steps ++ going_on rest s.boot s.place else session_from c cpu host events) hosted
    ∙ ap (λ o. s.steps ++ going_on rest o s.place) asks

-- a boot that writes nothing has no steps
empty-is : (steps : List Step) → is_empty steps ≡ true → steps ≡ []
empty-is [] is = refl
empty-is (step ∷ steps) is = cc

-- an event that asks for no boot
goes-on : (c : Content) (cpu : Cpu) (place : StateView) (event : EventView) (events : List EventView)
    → is_hosted event ≡ true → (served_at c cpu place event).boot ≡ None
    → IsTracedAs (at (after_all c (served_at c cpu place event).steps) cpu (served_at c cpu place event).place) events
    (after_all c (served_at c cpu place event).steps)
    (session-at (after_all c (served_at c cpu place event).steps) cpu (served_at c cpu place event).place events)
    → IsTracedAs (at c cpu place) (event ∷ events) c (session-at c cpu place (event ∷ events))
goes-on c cpu Off event events hosted asks rest =
    let off = while-off c cpu event hosted in
    event-then c cpu Off Off event events [] [] (hosted-arms event hosted) off.0 off.1 rest
goes-on c cpu (Running program) event events hosted asks rest =
    let runs = while-running c cpu program event hosted in
    event-then c cpu (Running program) (Running program) event events [] [] (hosted-arms event hosted) runs.0 runs.1 rest
goes-on c cpu (InBootsel host) event events hosted asks rest =
    let s = served_event c cpu host event in
    let does = in-bootsel c cpu host event hosted ∙ ap (followed_by c cpu s) asks in
    subst (IsTracedAs (at c cpu (InBootsel host)) (event ∷ events) c)
    (sym (session-more c cpu host event events None hosted asks
    ∙ ap (λ zs. s.steps ++ zs) (session-goes (after_all c s.steps) cpu s.place events)))
    (event-then c cpu (InBootsel host) s.place event events s.steps
    (session-at (after_all c s.steps) cpu s.place events) (hosted-arms event hosted)
    (ap (λ e. e.steps) does) (ap (λ e. e.place) does) rest)

-- the last event, which asks for a boot that writes nothing
boots-last : (c : Content) (cpu : Cpu) (place : StateView) (event : EventView) (kind : BootKind)
    → is_hosted event ≡ true → (served_at c cpu place event).boot ≡ Some kind
    → is_quiet (after_all c (served_at c cpu place event).steps) cpu kind ≡ true
    → IsTracedAs (at c cpu place) (event ∷ []) c (session-at c cpu place (event ∷ []))
boots-last c cpu Off event kind hosted asks quiet = cc
boots-last c cpu (Running program) event kind hosted asks quiet = cc
boots-last c cpu (InBootsel host) event kind hosted asks quiet =
    let s = served_event c cpu host event in
    let d = after_all c s.steps in
    let does = in-bootsel c cpu host event hosted ∙ ap (followed_by c cpu s) asks in
    let writes = ap (λ zs. s.steps ++ zs) (empty-is (decided_steps d cpu (decision_in d cpu kind)) quiet)
    ∙ append-nil s.steps in
    subst (IsTracedAs (at c cpu (InBootsel host)) (event ∷ []) c)
    (sym (session-more c cpu host event [] (Some kind) hosted asks))
    (event-then c cpu (InBootsel host) (effect (at c cpu (InBootsel host)) event).place event [] s.steps []
    (hosted-arms event hosted) (ap (λ e. e.steps) does ∙ writes) refl
    (none-traced d cpu (effect (at c cpu (InBootsel host)) event).place))

-- a host's event, and then others, by the boot that it asks for
event-closes : (c : Content) (cpu : Cpu) (place : StateView) (event : EventView) (events : List EventView)
    (end_ : Closing) (asked : Option BootKind) → is_hosted event ≡ true → (served_at c cpu place event).boot ≡ asked
    → closing (after_all c (served_at c cpu place event).steps) cpu (served_at c cpu place event).place asked events
    ≡ Some end_
    → is_quiet_boot end_.content cpu end_.boot ≡ true
    → (closing (after_all c (served_at c cpu place event).steps) cpu (served_at c cpu place event).place None events
    ≡ Some end_
    → IsTracedAs (at (after_all c (served_at c cpu place event).steps) cpu (served_at c cpu place event).place) events
    (after_all c (served_at c cpu place event).steps)
    (session-at (after_all c (served_at c cpu place event).steps) cpu (served_at c cpu place event).place events))
    → IsTracedAs (at c cpu place) (event ∷ events) c (session-at c cpu place (event ∷ events))
event-closes c cpu place event events end_ None hosted asks is quiet more =
    goes-on c cpu place event events hosted asks (more is)
event-closes c cpu place event (other ∷ events) end_ (Some kind) hosted asks is quiet more = cc
event-closes c cpu place event [] end_ (Some kind) hosted asks is quiet more =
    let d = after_all c (served_at c cpu place event).steps in
    let same : (let ended : Closing = record { content = d; boot = Some kind } in ended ≡ end_) = cc in
    boots-last c cpu place event kind hosted asks
    (ap (λ (e : Closing). is_quiet_boot e.content cpu e.boot) same ∙ quiet)

-- the events of a host, from a state on
closes-traced : (c : Content) (cpu : Cpu) (place : StateView) (events : List EventView) (end_ : Closing)
    → closing c cpu place None events ≡ Some end_ → is_quiet_boot end_.content cpu end_.boot ≡ true
    → IsTracedAs (at c cpu place) events c (session-at c cpu place events)
closes-traced c cpu place [] end_ is quiet =
    subst (IsTracedAs (at c cpu place) [] c) (sym (session-none c cpu place)) (none-traced c cpu place)
closes-traced c cpu place (event ∷ events) end_ is quiet =
    let s = served_at c cpu place event in
    go (λ more. closes-traced (after_all c s.steps) cpu s.place events end_ more quiet) (is_hosted event) refl is
  where
    go : (closing (after_all c (served_at c cpu place event).steps) cpu (served_at c cpu place event).place None events
        ≡ Some end_
        → IsTracedAs (at (after_all c (served_at c cpu place event).steps) cpu (served_at c cpu place event).place) events
        (after_all c (served_at c cpu place event).steps)
        (session-at (after_all c (served_at c cpu place event).steps) cpu (served_at c cpu place event).place events))
        → (b : Bool) → is_hosted event ≡ b
        → (if b then closing (after_all c (served_at c cpu place event).steps) cpu (served_at c cpu place event).place
        (served_at c cpu place event).boot events else None) ≡ Some end_
        → IsTracedAs (at c cpu place) (event ∷ events) c (session-at c cpu place (event ∷ events))
    go more true hosted is =
        event-closes c cpu place event events end_ (served_at c cpu place event).boot hosted refl is quiet more
    go more false hosted is = cc

-- the first two events of one session
hosted-is : (events others : List EventView) → hosted_events events ≡ Some others
    → events ≡ EventView.PowerOn ∷ (EventView.Reset Bootsel ∷ others)
hosted-is [] others is = cc
hosted-is (EventView.End ∷ events) others is = cc
hosted-is (EventView.Command command payload ∷ events) others is = cc
hosted-is (EventView.Uf2 block ∷ events) others is = cc
hosted-is (EventView.Cut left within pattern ∷ events) others is = cc
hosted-is (EventView.Reset kind ∷ events) others is = cc
hosted-is (EventView.Buy ∷ events) others is = cc
hosted-is (EventView.PowerOn ∷ []) others is = cc
hosted-is (EventView.PowerOn ∷ (EventView.End ∷ events)) others is = cc
hosted-is (EventView.PowerOn ∷ (EventView.Command command payload ∷ events)) others is = cc
hosted-is (EventView.PowerOn ∷ (EventView.Uf2 block ∷ events)) others is = cc
hosted-is (EventView.PowerOn ∷ (EventView.Cut left within pattern ∷ events)) others is = cc
hosted-is (EventView.PowerOn ∷ (EventView.PowerOn ∷ events)) others is = cc
hosted-is (EventView.PowerOn ∷ (EventView.Buy ∷ events)) others is = cc
hosted-is (EventView.PowerOn ∷ (EventView.Reset Normal ∷ events)) others is = cc
hosted-is (EventView.PowerOn ∷ (EventView.Reset (Update base) ∷ events)) others is = cc
hosted-is (EventView.PowerOn ∷ (EventView.Reset Bootsel ∷ events)) others is = cc

-- a reset to BOOTSEL from where a boot leads
resets : (c : Content) (cpu : Cpu) (d : Decision)
    → effect (at c cpu (decided_place c d)) (EventView.Reset Bootsel) ≡ reset c cpu Bootsel
resets c cpu (decisions.Start choice) = refl
resets c cpu (decisions.Bootsel fall) = refl

requested : (c : Content) (cpu : Cpu) → decision_in c cpu Bootsel ≡ decisions.Bootsel Requested
requested c cpu = sym (chosen-decision c cpu Bootsel (decisions.Bootsel Requested) refl)

-- power that comes back, a reset to BOOTSEL, and what follows there
begins-traced : (c : Content) (cpu : Cpu) (others : List EventView) → is_quiet c cpu Normal ≡ true
    → IsTracedAs (at c cpu (entered c)) others c (session-at c cpu (entered c) others)
    → IsTracedAs (powerless c cpu) (EventView.PowerOn ∷ (EventView.Reset Bootsel ∷ others)) c
    (session-at c cpu (entered c) others)
begins-traced c cpu others quiet rest =
    let d = decision_in c cpu Normal in
    let back = resets c cpu d in
    let asked = requested c cpu in
    event-then c cpu Off (decided_place c d) EventView.PowerOn (EventView.Reset Bootsel ∷ others) []
    (session-at c cpu (entered c) others) refl (empty-is (decided_steps c cpu d) quiet) refl
    (event-then c cpu (decided_place c d) (entered c) (EventView.Reset Bootsel) others []
    (session-at c cpu (entered c) others) refl
    (ap (λ e. e.steps) back ∙ ap (λ x. decided_steps c cpu x) asked)
    (ap (λ e. e.place) back ∙ ap (λ x. decided_place c x) asked) rest)

session-traced : (c : Content) (cpu : Cpu) (events : List EventView) → is_one_session c cpu events ≡ true
    → IsTracedAs (powerless c cpu) events c (session c cpu events)
session-traced c cpu events one =
    let parts = and_parts _ _ one in by-hosted (hosted_events events) refl parts.0 parts.1
  where
    by-closing : (others : List EventView) → is_quiet c cpu Normal ≡ true → (o : Option Closing)
        → closing c cpu (entered c) None others ≡ o → ends_quietly cpu o ≡ true
        → IsTracedAs (powerless c cpu) (EventView.PowerOn ∷ (EventView.Reset Bootsel ∷ others)) c
        (session-at c cpu (entered c) others)
    by-closing others quiet None is ends = cc
    by-closing others quiet (Some end_) is ends =
        begins-traced c cpu others quiet (closes-traced c cpu (entered c) others end_ is ends)

    by-hosted : (o : Option (List EventView)) → hosted_events events ≡ o → is_quiet c cpu Normal ≡ true
        → closes_quietly c cpu o ≡ true → IsTracedAs (powerless c cpu) events c (session c cpu events)
    by-hosted None is quiet closes = cc
    by-hosted (Some others) is quiet closes =
        subst (λ es. IsTracedAs (powerless c cpu) es c (session c cpu es)) (sym (hosted-is events others is))
        (by-closing others quiet (closing c cpu (entered c) None others) refl closes)

-- the trace has the steps of the session, and the script leaves what they do
pub trace-is : (c : Content) (cpu : Cpu) (events : List EventView) → is_one_session c cpu events ≡ true
    → traced (powerless c cpu) events ≡ traced_from c (session c cpu events)
trace-is c cpu events one = (session-traced c cpu events one).steps_are

pub last-is : (c : Content) (cpu : Cpu) (events : List EventView) → is_one_session c cpu events ≡ true
    → (played (powerless c cpu) events).last.content ≡ after_all c (session c cpu events)
last-is c cpu events one = (session-traced c cpu events one).left

pub moves-are : (c : Content) (cpu : Cpu) (events : List EventView) → is_one_session c cpu events ≡ true
    → moves_in (powerless c cpu) events ≡ dones (session c cpu events)
moves-are c cpu events one = (session-traced c cpu events one).moves_are

none-torn : (steps : List Step) → left_torn (dones steps) ≡ []
none-torn [] = refl
none-torn (step ∷ steps) = none-torn steps

-- such a script leaves no window torn
pub all-mended : (c : Content) (cpu : Cpu) (events : List EventView) → is_one_session c cpu events ≡ true → (w : Window)
    → IsLeftTorn (moves_in (powerless c cpu) events) w → ⊥
all-mended c cpu events one w torn =
    let no : false ≡ true =
    sym (ap (λ ms. is_left_torn (left_torn ms) w) (moves-are c cpu events one)
    ∙ ap (λ xs. is_left_torn xs w) (none-torn (session c cpu events)))
    ∙ (torn-exactly (moves_in (powerless c cpu) events) w).0 torn in cc
