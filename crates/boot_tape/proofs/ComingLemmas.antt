-- What comes of an event on a machine that traces, of which no cut is armed.
use Rattle.std.proofs.Common.{◌≡◌, ℕ, ◌-◌, Bool, true, false, List, [], ◌∷◌, ◌++◌, length, Option, Some, None, refl, sym, ap, ◌∙◌, subst, arith, append_assoc, append-nil, inl, inr}
use Rattle.std.specs.Prelude.{◌&&◌, ◌==◌, ⊤, Result, Ok, Err, if◌then◌else◌}
use Rattle.std.specs.Bool.{OnTrue}
use Rattle.std.proofs.lemmas.Bool.{and_parts}
use Rattle.pico_board.specs.declared.mem_board.MemBoard.{MemBoard}
use Rattle.pico_board.specs.declared.Step.{Step}
use Rattle.pico_board.specs.declared.boot.Cpu.{Cpu}
use Rattle.pico_board.specs.declared.boot.BootKind.{BootKind}
use Rattle.pico_board.specs.Content.{Content}
use Rattle.pico_board.specs.Cuts.{Cut}
use Rattle.pico_board.specs.Histories.{Extends}
use Rattle.pico_board.specs.MemBoard.{state_of}
use Rattle.pico_board.specs.Steps.{after_all}
use Rattle.pico_board.proofs.StepLemmas.{after_all-append}
use Rattle.uf2_place.specs.declared.block.Uf2.{Uf2}
use Rattle.uf2_place.specs.declared.block.Uf2Fault.{Uf2Fault}
use Rattle.uf2_place.specs.declared.answer.Ruling.{Ruling}
use Rattle.uf2_place.specs.declared.answer.Ruling.TheVariants.{Answered, Begins, Continues}
use Rattle.uf2_place.specs.Blocks.{uf2_of}
use Rattle.uf2_place.specs.Placement.{grown, is_whole_download}
use Rattle.part_table.specs.declared.Target.{Target}
use Rattle.picoboot_cmd.specs.declared.cmd.Cmd.{Cmd}
use Rattle.picoboot_cmd.specs.declared.cmd.CmdFault.{CmdFault}
use Rattle.picoboot_cmd.specs.Commands.{command_in}
use Rattle.info_reply.specs.declared.kinds.TheConstants.{INFO}
use Rattle.ram_start.specs.Serving.{is_ram_command}
use Rattle.image_def.specs.declared.started.Started.{Started}
use Rattle.boot_rules.specs.Targets.{target_of}
use Rattle.boot_script.specs.Events.{EventView}
use Rattle.boot_session.proofs.ServedLemmas.{all-served}
use Rattle.text_lines.specs.declared.outcome.EventOutcome.{EventOutcome}
use Rattle.text_lines.specs.declared.outcome.EventOutcome.TheVariants as event_outcomes
use Rattle.boot_machine.specs.declared.parts.Parts.{Parts}
use Rattle.boot_machine.specs.declared.state.State.{State}
use Rattle.boot_machine.specs.declared.state.State.TheVariants as states
use Rattle.boot_machine.specs.Boots.{booted}
use Rattle.boot_machine.specs.Machines.{Host, MachineView, Program, StateView, Off, InBootsel, Running, FromFlash, FromRam}
use Rattle.boot_machine.specs.Moves.{IsLost, Moves, MovesBy, armed_for, effect, effect_in}
use Rattle.boot_machine.specs.Serving.{ServedEvent, block_served, blocks_of, command_served, followed, followed_by, is_hosted, ram_place, ruling_on, served_event, serves, serves_ram, table_of_found, taken_in, uf2_served}
use Rattle.boot_machine.specs.Standing.{IsStep, Serves, Stands, StandsAt, is_bootsel}
use Rattle.boot_tape.specs.declared.notes.Behind.{Behind}
use Rattle.boot_session.specs.declared.recorder.Recorder.{Recorder}
use Rattle.boot_tape.specs.Playing.{HasCome, IsStepped, asked_effect, behind_in, recorded_state}
use Rattle.boot_tape.specs.Traces.{behind_asked, behind_other, behind_served, image_of, outcome_before, own_steps, served_in, served_steps}
use Rattle.boot_session.specs.Recordings.{IsHistoryOf, IsRecordOf, first_steps}
use Rattle.boot_tape.proofs.PlayLemmas.{no-loss, records-more, stepped-by}

-- what holds of both holds of either
either : {A : Type 0} (P : A → Type 0) (t : Bool) (a b : A) → P a → P b → P (if t then a else b)
either P true a b p q = p
either P false a b p q = q

-- a place that has power
abbrev IsOn : StateView → Type 0
IsOn Off = ⊥
IsOn (InBootsel host) = ⊤
IsOn (Running program) = ⊤

abbrev Keeps : ServedEvent → Type 0
Keeps s = IsOn s.place

taken-on : (host : Host) (t : Target) (blocks : List Uf2) (b : Uf2) (steps : List Step)
    → Keeps (taken_in host t blocks b steps)
taken-on host t blocks b steps = either Keeps (is_whole_download blocks) _ _ tt tt

block-on : (host : Host) (b : Uf2) (r : Ruling) → Keeps (block_served host b r)
block-on host b (Answered answer) = tt
block-on host b (Begins t) = taken-on host t (b ∷ []) b (grown t [] (b ∷ []))
block-on host b (Continues t) =
    taken-on host t (blocks_of host.placing ++ b ∷ []) b
    (grown t (blocks_of host.placing) (blocks_of host.placing ++ b ∷ []))

ram-on : (host : Host) (start : Option Started) (ram : List ℕ) → IsOn (ram_place host start ram)
ram-on host None ram = tt
ram-on host (Some image) ram = tt

module _ (c : Content) (cpu : Cpu) (host : Host) where
  uf2-on : (r : Result Uf2 Uf2Fault) → Keeps (uf2_served c cpu host r)
  uf2-on (Ok b) =
      block-on host b (ruling_on (length c.flash) (table_of_found host.found)
      (target_of c (table_of_found host.found) cpu b.family) host.placing b)
  uf2-on (Err fault) = tt

  serves-on : (cmd : Cmd) (payload : List ℕ) → Keeps (serves c cpu host cmd payload)
  serves-on cmd payload =
      either Keeps (cmd.id == INFO) _ _ tt
      (either Keeps (is_ram_command cmd) (serves_ram c cpu host cmd payload) _ (ram-on host _ _) tt)

  command-on : (r : Result Cmd CmdFault) (payload : List ℕ) → Keeps (command_served c cpu host r payload)
  command-on (Ok cmd) payload = serves-on cmd payload
  command-on (Err fault) payload = tt

-- a machine that serves an event keeps its power
served-keeps : (c : Content) (cpu : Cpu) (host : Host) (event : EventView) → Keeps (served_event c cpu host event)
served-keeps c cpu host (EventView.Command command payload) = command-on c cpu host (command_in command) payload
served-keeps c cpu host (EventView.Uf2 block) = uf2-on c cpu host (uf2_of block)
served-keeps c cpu host EventView.End = tt
served-keeps c cpu host (EventView.Cut left within pattern) = tt
served-keeps c cpu host EventView.PowerOn = tt
served-keeps c cpu host (EventView.Reset kind) = tt
served-keeps c cpu host EventView.Buy = tt

-- so a reset then boots
reset-boots : (c : Content) (cpu : Cpu) (place : StateView) (kind : BootKind) → IsOn place
    → effect_in c cpu place (EventView.Reset kind) ≡ booted c cpu kind None
reset-boots c cpu Off kind on = absurd on
reset-boots c cpu (InBootsel host) kind on = refl
reset-boots c cpu (Running program) kind on = refl

-- a host's event in BOOTSEL
served-is : (m : MachineView) (event : EventView) (host : Host) → is_hosted event ≡ true → m.place ≡ InBootsel host
    → served_in m.content m.cpu m.place event ≡ Some (served_event m.content m.cpu host event)
served-is m event host hosted at =
    ap (λ p. served_in m.content m.cpu p event) at
    ∙ ap (λ (b : Bool). if b then Some (served_event m.content m.cpu host event) else None) hosted

effect-served : (m : MachineView) (event : EventView) (host : Host) → is_hosted event ≡ true → m.place ≡ InBootsel host
    → effect m event ≡ followed m.content m.cpu (served_event m.content m.cpu host event)
effect-served m (EventView.Command command payload) host hosted at =
    ap (λ p. effect_in m.content m.cpu p (EventView.Command command payload)) at
effect-served m (EventView.Uf2 block) host hosted at =
    ap (λ p. effect_in m.content m.cpu p (EventView.Uf2 block)) at
effect-served m EventView.End host hosted at = cc
effect-served m (EventView.Cut left within pattern) host hosted at = cc
effect-served m EventView.PowerOn host hosted at = cc
effect-served m (EventView.Reset kind) host hosted at = cc
effect-served m EventView.Buy host hosted at = cc

hosted-armed : (armed : Option (Option Cut)) (event : EventView) → is_hosted event ≡ true → armed_for armed event ≡ armed
hosted-armed armed (EventView.Command command payload) hosted = refl
hosted-armed armed (EventView.Uf2 block) hosted = refl
hosted-armed armed EventView.End hosted = cc
hosted-armed armed (EventView.Cut left within pattern) hosted = cc
hosted-armed armed EventView.PowerOn hosted = cc
hosted-armed armed (EventView.Reset kind) hosted = cc
hosted-armed armed EventView.Buy hosted = cc

-- the machine behind what was served
abbrev pub served_machine : Content → Cpu → ServedEvent → MachineView
served_machine c cpu s =
    record { content = after_all c s.steps; armed = Some None; cpu = cpu; place = s.place }

-- what was served was done and recorded
record IsDone (old : Parts (Recorder MemBoard)) (c : Content) (cpu : Cpu) (s : ServedEvent) (asked : Option BootKind)
    (outcome : EventOutcome) (mid : Parts (Recorder MemBoard)) : Type 0 where
  stands : Stands recorded_state mid (served_machine c cpu s)
  asks : asked ≡ s.boot
  told : outcome ≡ s.outcome
  recorded : Extends (IsRecordOf state_of) old.board s.steps mid.board

served-done : (old mid : Parts (Recorder MemBoard)) (m : MachineView) (host : Host) (event : EventView)
    (asked : Option BootKind) (outcome : EventOutcome) → StandsAt old (InBootsel host) → Stands recorded_state old m
    → m.armed ≡ Some None
    → Serves recorded_state (IsHistoryOf state_of) old (λ c cpu host. served_event c cpu host event) asked mid outcome
    → IsDone old m.content m.cpu (served_event m.content m.cpu host event) asked outcome mid
served-done old mid m host event asked outcome at stands none serves =
    let is = serves host at in
    let c = (recorded_state old.board).content in
    let s = served_event c old.cpu host event in
    let whole = all-served recorded_state (IsHistoryOf state_of) old.board mid.board s.steps is.ok
    (sym stands.armed ∙ none) is.by.board in
    let done : IsDone old c old.cpu s asked outcome mid = record {
      stands = record {
        content = sym whole.1.content;
        armed = sym whole.1.unarmed;
        cpu = sym is.by.cpu;
        place = subst (λ b. OnTrue b (StandsAt mid s.place)) whole.0 is.by.place;
      };
      asks = subst (λ b. OnTrue b (asked ≡ s.boot)) whole.0 is.asked;
      told = subst (λ b. OnTrue b (outcome ≡ s.outcome)) whole.0 is.by.told;
      recorded = records-more old.board mid.board s.steps whole.1.recorded;
    } in
    subst (λ x. IsDone old m.content x (served_event m.content x host event) asked outcome mid) (sym stands.cpu)
    (subst (λ x. IsDone old x old.cpu (served_event x old.cpu host event) asked outcome mid) (sym stands.content) done)

-- what was served, with the boot that it asks for
with-boot : (old mid new : Parts (Recorder MemBoard)) (m : MachineView) (s : ServedEvent) (boot : Option BootKind)
    → IsOn s.place
    → Extends (IsRecordOf state_of) old.board s.steps mid.board
    → IsStepped mid (served_machine m.content m.cpu s) (asked_effect (served_machine m.content m.cpu s) boot) new
    → IsStepped old m (followed_by m.content m.cpu s boot) new
with-boot old mid new m s None on first second = record {
  stands = second.stands;
  recorded = λ h is. subst (IsRecordOf state_of new.board) (append-nil (h ++ s.steps)) (second.recorded (h ++ s.steps) (first h is));
}
with-boot old mid new m s (Some kind) on first second =
    let d = after_all m.content s.steps in
    let boot = booted d m.cpu kind (Some s.outcome) in
    let is : IsStepped mid (served_machine m.content m.cpu s) (booted d m.cpu kind None) new =
    subst (λ e. IsStepped mid (served_machine m.content m.cpu s) e new) (reset-boots d m.cpu s.place kind on) second in record {
      stands = subst (λ (x : Content). Stands recorded_state new (record {
        content = x;
        armed = Some None;
        cpu = m.cpu;
        place = boot.place;
      })) (sym (after_all-append m.content s.steps boot.steps)) is.stands;
      recorded = λ h before. subst (IsRecordOf state_of new.board) (append_assoc h s.steps boot.steps)
          (is.recorded (h ++ s.steps) (first h before));
    }

come-host : (old mid new : Parts (Recorder MemBoard)) (m : MachineView) (host : Host) (event : EventView)
    (asked : Option BootKind) (outcome : EventOutcome) (own : ℕ) → is_hosted event ≡ true → m.place ≡ InBootsel host
    → IsDone old m.content m.cpu (served_event m.content m.cpu host event) asked outcome mid
    → own ≡ length mid.board.steps.items - length old.board.steps.items
    → ((n : MachineView) → Stands recorded_state mid n → n.armed ≡ Some None → IsStepped mid n (asked_effect n asked) new)
    → HasCome old m event (record { outcome = outcome; own = own; behind = behind_asked asked }) new
come-host old mid new m host event asked outcome own hosted at done own_is boots =
    let s = served_event m.content m.cpu host event in
    let n = served_machine m.content m.cpu s in
    let is = served-is m event host hosted at in record {
      did = subst (λ e. IsStepped old m e new) (sym (effect-served m event host hosted at))
          (with-boot old mid new m s s.boot (served-keeps m.content m.cpu host event) done.recorded
          (subst (λ a. IsStepped mid n (asked_effect n a) new) done.asks (boots n done.stands refl)));
      outcome = done.told ∙ sym (ap (λ o. outcome_before o (effect m event)) is);
      behind_ = ap behind_asked done.asks ∙ sym (ap (λ o. behind_served o m.place event) is);
      own = λ h traced.
          own_is
          ∙ (ap (λ (xs : List Step). length xs - length old.board.steps.items) (done.recorded h traced).known.kept
          ∙ (ap (λ (xs : List Step). length (first_steps (h ++ s.steps)) - length xs) traced.known.kept
          ∙ ap (λ (xs : List Step). length (first_steps (h ++ xs)) - length (first_steps h)) (sym (ap served_steps is))));
    }

serving : (state : State) → is_bootsel state ≡ true → state ≡ states.Bootsel
serving states.Off is = cc
serving states.Bootsel is = refl
serving (states.Running image) is = cc

pub is-serving : (state : State) (event : EventView) → (is_bootsel state && is_hosted event) ≡ true
    → state ≡ states.Bootsel
is-serving state event both = serving state (and_parts (is_bootsel state) (is_hosted event) both).0

pub is-hosted : (state : State) (event : EventView) → (is_bootsel state && is_hosted event) ≡ true
    → is_hosted event ≡ true
is-hosted state event both = (and_parts (is_bootsel state) (is_hosted event) both).1

-- a host's event that is served, and the boot that it asks for
pub come-served : (old mid new : Parts (Recorder MemBoard)) (m : MachineView) (event : EventView)
    (asked : Option BootKind) (outcome : EventOutcome) (own : ℕ) → (is_bootsel old.state && is_hosted event) ≡ true
    → Serves recorded_state (IsHistoryOf state_of) old (λ c cpu host. served_event c cpu host event) asked mid outcome
    → own ≡ length mid.board.steps.items - length old.board.steps.items
    → ((n : MachineView) → Stands recorded_state mid n → n.armed ≡ Some None → IsStepped mid n (asked_effect n asked) new)
    → Stands recorded_state old m → armed_for m.armed event ≡ Some None
    → HasCome old m event (record { outcome = outcome; own = own; behind = behind_asked asked }) new
come-served old mid new m event asked outcome own both serves own_is boots stands none =
    go m.place refl (is-serving old.state event both) stands.place
  where
    hosted : is_hosted event ≡ true
    hosted = is-hosted old.state event both

    go : (place : StateView) → m.place ≡ place → old.state ≡ states.Bootsel → StandsAt old place
        → HasCome old m event (record { outcome = outcome; own = own; behind = behind_asked asked }) new
    go Off at bootsel off = let no : states.Off ≡ states.Bootsel = sym off ∙ bootsel in cc
    go (Running (FromFlash choice)) at bootsel runs =
        let no : states.Running choice.image ≡ states.Bootsel = sym runs.state ∙ bootsel in cc
    go (Running (FromRam image)) at bootsel runs =
        let no : states.Running image ≡ states.Bootsel = sym runs.state ∙ bootsel in cc
    go (InBootsel host) at bootsel is =
        come-host old mid new m host event asked outcome own hosted at
        (served-done old mid m host event asked outcome is stands (sym (hosted-armed m.armed event hosted) ∙ none) serves)
        own_is boots

-- an event that is not served
unserved-on : (old : Parts (Recorder MemBoard)) (c : Content) (cpu : Cpu) (place : StateView) (event : EventView)
    → (is_bootsel old.state && is_hosted event) ≡ false → StandsAt old place → served_in c cpu place event ≡ None
unserved-on old c cpu Off event passed stands = refl
unserved-on old c cpu (Running program) event passed stands = refl
unserved-on old c cpu (InBootsel host) event passed stands =
    let other : is_hosted event ≡ false = sym (ap (λ b. is_bootsel b && is_hosted event) stands.state) ∙ passed in
    ap (λ (b : Bool). if b then Some (served_event c cpu host event) else None) other

outcome-by : (m : MachineView) (event : EventView) (n : MachineView) (outcome : EventOutcome)
    → armed_for m.armed event ≡ Some None → Moves m event n outcome → outcome ≡ (effect m event).outcome
outcome-by m event n outcome none moves = go (subst (λ a. MovesBy m a (effect m event) n outcome) none moves)
  where
    go : MovesBy m (Some None) (effect m event) n outcome → outcome ≡ (effect m event).outcome
    go (inl done) = done.told
    go (inr lost) = absurd (no-loss m (effect m event) n outcome lost)

-- what makes the moves of an event that is not served
off-behind : (event : EventView) → behind_in states.Off event ≡ behind_other Off event
off-behind EventView.End = refl
off-behind (EventView.Command command payload) = refl
off-behind (EventView.Uf2 block) = refl
off-behind (EventView.Cut left within pattern) = refl
off-behind EventView.PowerOn = refl
off-behind (EventView.Reset kind) = refl
off-behind EventView.Buy = refl

bootsel-behind : (host : Host) (event : EventView) → behind_in states.Bootsel event ≡ behind_other (InBootsel host) event
bootsel-behind host EventView.End = refl
bootsel-behind host (EventView.Command command payload) = refl
bootsel-behind host (EventView.Uf2 block) = refl
bootsel-behind host (EventView.Cut left within pattern) = refl
bootsel-behind host EventView.PowerOn = refl
bootsel-behind host (EventView.Reset kind) = refl
bootsel-behind host EventView.Buy = refl

running-behind : (program : Program) (event : EventView)
    → behind_in (states.Running (image_of program)) event ≡ behind_other (Running program) event
running-behind program EventView.End = refl
running-behind program (EventView.Command command payload) = refl
running-behind program (EventView.Uf2 block) = refl
running-behind program (EventView.Cut left within pattern) = refl
running-behind program EventView.PowerOn = refl
running-behind program (EventView.Reset kind) = refl
running-behind program EventView.Buy = refl

other-behind : (old : Parts (Recorder MemBoard)) (place : StateView) (event : EventView) → StandsAt old place
    → behind_in old.state event ≡ behind_other place event
other-behind old Off event stands = ap (λ s. behind_in s event) stands ∙ off-behind event
other-behind old (InBootsel host) event stands =
    ap (λ s. behind_in s event) stands.state ∙ bootsel-behind host event
other-behind old (Running (FromFlash choice)) event stands =
    ap (λ s. behind_in s event) stands.state ∙ running-behind (FromFlash choice) event
other-behind old (Running (FromRam image)) event stands =
    ap (λ s. behind_in s event) stands.state ∙ running-behind (FromRam image) event

pub come-passed : (old new : Parts (Recorder MemBoard)) (m : MachineView) (event : EventView) (outcome : EventOutcome)
    (found : Behind) → found ≡ behind_in old.state event
    → (is_bootsel old.state && is_hosted event) ≡ false → Stands recorded_state old m → armed_for m.armed event ≡ Some None
    → IsStep recorded_state (IsHistoryOf state_of) old m event new outcome
    → ((n : MachineView) (came : EventOutcome) → Moves m event n came → came ≡ event_outcomes.PowerLost
    → IsLost m (armed_for m.armed event) (effect m event) n came)
    → HasCome old m event (record { outcome = outcome; own = 0; behind = found }) new
come-passed old new m event outcome found found_is other stands none step says =
    let is = unserved-on old m.content m.cpu m.place event other stands.place in record {
      did = stepped-by old m event new outcome none step says;
      outcome = outcome-by m event step.next outcome none step.moves
          ∙ sym (ap (λ o. outcome_before o (effect m event)) is);
      behind_ = found_is ∙ (other-behind old m.place event stands.place ∙ sym (ap (λ o. behind_served o m.place event) is));
      own = λ h traced.
          let same : length (first_steps (h ++ own_steps m event)) ≡ length (first_steps h) =
          ap (λ o. length (first_steps (h ++ served_steps o))) is
          ∙ ap (λ (xs : List Step). length (first_steps xs)) (append-nil h) in omega (arith, same);
    }

-- a boot that no event asks for
pub none-asked : (old : Parts (Recorder MemBoard)) (m : MachineView) → Stands recorded_state old m → m.armed ≡ Some None
    → IsStepped old m (asked_effect m None) old
none-asked old m stands none = record {
  stands = record {
    content = stands.content;
    armed = sym none ∙ stands.armed;
    cpu = stands.cpu;
    place = stands.place;
  };
  recorded = λ h is. subst (IsRecordOf state_of old.board) (sym (append-nil h)) is;
}
