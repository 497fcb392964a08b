-- What did nothing is told by what is noted of events, without the boots that they ask for.
use Rattle.std.proofs.Common.{◌≡◌, ◌⊎◌, inl, inr, ℕ, ◌+◌, ◌==◌, Bool, true, false, cond, List, [], ◌∷◌, ◌++◌, Option, Some, None, Ok, Err, refl, sym, ap, subst, ◌∙◌}
use Rattle.std.specs.Prelude.{◌&&◌, ◌||◌, Result, if◌then◌else◌, is_some, length, not}
use Rattle.pico_board.specs.declared.boot.BootKind.{BootKind}
use Rattle.pico_board.specs.declared.boot.Cpu.{Cpu}
use Rattle.pico_board.specs.declared.Step.{Step}
use Rattle.pico_board.specs.Content.{Content}
use Rattle.pico_board.specs.Steps.{after_all}
use Rattle.part_table.specs.declared.Target.{Target}
use Rattle.picoboot_cmd.specs.declared.cmd.Cmd.{Cmd}
use Rattle.picoboot_cmd.specs.declared.cmd.CmdFault.{CmdFault}
use Rattle.picoboot_cmd.specs.Checks.{status_of}
use Rattle.picoboot_cmd.specs.Commands.{command_in}
use Rattle.picoboot_cmd.specs.Served.{ServedCommand, boot_of, command_steps, reply_of}
use Rattle.info_reply.specs.declared.kinds.TheConstants.{INFO}
use Rattle.ram_start.specs.Serving.{is_ram_command}
use Rattle.uf2_place.specs.declared.block.Uf2.{Uf2}
use Rattle.uf2_place.specs.declared.block.Uf2Fault.{Uf2Fault}
use Rattle.uf2_place.specs.declared.answer.Accepted.TheVariants as accepted
use Rattle.uf2_place.specs.declared.answer.Ruling.{Ruling}
use Rattle.uf2_place.specs.declared.answer.Ruling.TheVariants.{Answered, Begins, Continues}
use Rattle.uf2_place.specs.Blocks.{uf2_of}
use Rattle.uf2_place.specs.Placement.{grown, is_whole_download}
use Rattle.text_lines.specs.declared.outcome.CommandAnswer.TheVariants as answers
use Rattle.text_lines.specs.declared.outcome.CommandOutcome.{CommandOutcome}
use Rattle.text_lines.specs.declared.outcome.BlockOutcome.TheVariants as blocks
use Rattle.text_lines.specs.declared.outcome.EventOutcome.{EventOutcome}
use Rattle.text_lines.specs.declared.outcome.EventOutcome.TheVariants as events
use Rattle.text_lines.specs.Outcomes.{accepted_outcome, has_reply, reply_sum, with_boot}
use Rattle.boot_rules.specs.declared.decision.Decision.{Decision}
use Rattle.boot_rules.specs.Choosing.{decision_in}
use Rattle.boot_script.specs.Events.{EventView}
use Rattle.boot_machine.specs.Machines.{Host, MachineView, StateView, Off, InBootsel, Running}
use Rattle.boot_machine.specs.Moves.{effect, effect_in}
use Rattle.boot_machine.specs.Serving.{ServedEvent, block_served, blocks_of, command_served, done_boot, followed_by, host_result, is_hosted, serves, serves_host, serves_info, serves_ram, table_of_found, taken_in, uf2_served, with_placing}
use Rattle.boot_machine.specs.Plays.{moved_machine, played}
use Rattle.boot_tape.specs.Traces.{came_of, note_of, noted, outcome_before, served_in}
use Rattle.boot_tape.proofs.NoteLemmas.{unserved}
use Rattle.check_records.specs.Idle.{Idle, idle_from, idle_here, is_idle, is_lost, is_refused}
use Rattle.check_records.specs.Seeing.{came_in, outcomes_seen, unless_lost}
use Rattle.check_records.proofs.OtherLemmas.{moved-outcome}

-- of two outcomes both did nothing, and then they are the same, or neither; and power is lost in both or in neither
pub record TellSame (o p : EventOutcome) : Type 0 where
  pub idle : (lost : Bool) (n : ℕ) → idle_here lost n o ≡ idle_here lost n p
  pub lost : is_lost o ≡ is_lost p

abbrev same : (o : EventOutcome) → TellSame o o
same o = record { idle = λ lost n. refl; lost = refl }

-- a command with a status other than 0
abbrev refuses : EventOutcome → Bool
refuses (events.Command k) = is_refused k.answer
refuses _ = false

-- a command as an event that did nothing, where it is no read
abbrev command_here : CommandOutcome → ℕ → Bool → List Idle
command_here k n b =
    if b && not (has_reply k.id) then record { number = n; outcome = events.Command k } ∷ [] else []

-- a command that is done did something, and so did one that boots
command-same : (k : CommandOutcome) (d : Decision) → is_refused k.answer ≡ false
    → TellSame (events.Command k) (with_boot (events.Command k) d)
unfolding is_idle
command-same k d done = record {
  idle = λ lost n. ap (command_here k n) done;
  lost = refl;
}

-- what asks for a boot tells the same of it with that boot
booted-same : (o : EventOutcome) (d : Decision) → refuses o ≡ false → TellSame o (with_boot o d)
unfolding is_idle
booted-same (events.Command k) d done = command-same k d done
booted-same (events.Block (blocks.BadForm fault)) d done = same (events.Block (blocks.BadForm fault))
booted-same (events.Block (blocks.Refused refusal)) d done = same (events.Block (blocks.Refused refusal))
booted-same (events.Block (blocks.Accepted number answer)) d done = record { idle = λ lost n. refl; lost = refl }
booted-same (events.Block (blocks.Downloaded number former)) d done = same (events.Block (blocks.Downloaded number former))
booted-same events.Off d done = same events.Off
booted-same events.Ignored d done = same events.Ignored
booted-same events.Ended d done = same events.Ended
booted-same events.CutArmed d done = same events.CutArmed
booted-same events.PowerLost d done = same events.PowerLost
booted-same (events.Booted former) d done = same (events.Booted former)
booted-same events.Bought d done = same events.Bought
booted-same events.NothingToBuy d done = same events.NothingToBuy
booted-same events.BadMagic d done = same events.BadMagic

-- a host's event that is refused asks for no boot
abbrev Asks : ServedEvent → Type 0
Asks s = (s.boot ≡ None) ⊎ (refuses s.outcome ≡ false)

done-told : (reply : List ℕ) (b : Bool)
    → is_refused (cond b (answers.Replied (reply_sum reply)) answers.Done) ≡ false
done-told reply true = refl
done-told reply false = refl

host-asks : (c : Content) (host : Host) (cmd : Cmd) (payload : List ℕ) → Asks (serves_host c host cmd payload)
host-asks c host cmd payload =
    let status = status_of (length c.flash) c.otp (table_of_found host.found) (is_some host.placing) cmd payload in
    go status (status == 0)
  where
    done : ServedCommand
    done = record { status = 0; steps = command_steps cmd payload; reply = reply_of c cmd; boot = boot_of cmd }

    go : (status : ℕ) (b : Bool) → Asks (host_result host cmd
        (cond b done (record { status = status; steps = []; reply = []; boot = None })))
    go status true = inr (done-told (reply_of c cmd) (has_reply cmd.id))
    go status false = inl refl

serves-asks : (c : Content) (cpu : Cpu) (host : Host) (cmd : Cmd) (payload : List ℕ)
    → Asks (serves c cpu host cmd payload)
serves-asks c cpu host cmd payload = go (cmd.id == INFO) (is_ram_command cmd)
  where
    go : (x y : Bool) → Asks (cond x (serves_info c cpu host cmd payload)
        (cond y (serves_ram c cpu host cmd payload) (serves_host c host cmd payload)))
    go true y = inl refl
    go false true = inl refl
    go false false = host-asks c host cmd payload

command-asks : (c : Content) (cpu : Cpu) (host : Host) (cmd : Result Cmd CmdFault) (payload : List ℕ)
    → Asks (command_served c cpu host cmd payload)
command-asks c cpu host (Ok cmd) payload = serves-asks c cpu host cmd payload
command-asks c cpu host (Err fault) payload = inl refl

taken-asks : (host : Host) (target : Target) (blocks : List Uf2) (b : Uf2) (steps : List Step)
    → Asks (taken_in host target blocks b steps)
taken-asks host target blocks b steps = go (is_whole_download blocks)
  where
    whole : ServedEvent
    whole = record {
      steps = steps;
      place = InBootsel (with_placing host None);
      outcome = accepted_outcome b.number (accepted.Done target);
      boot = done_boot b.family target;
    }

    part : ServedEvent
    part = record {
      steps = steps;
      place = InBootsel (with_placing host (Some (record { target = target; blocks = blocks })));
      outcome = accepted_outcome b.number accepted.Taken;
      boot = None;
    }

    go : (w : Bool) → Asks (cond w whole part)
    go true = inr refl
    go false = inl refl

ruled-asks : (host : Host) (b : Uf2) (r : Ruling) → Asks (block_served host b r)
ruled-asks host b (Answered answer) = inl refl
ruled-asks host b (Begins t) = taken-asks host t (b ∷ []) b (grown t [] (b ∷ []))
ruled-asks host b (Continues t) =
    taken-asks host t (blocks_of host.placing ++ b ∷ []) b
    (grown t (blocks_of host.placing) (blocks_of host.placing ++ b ∷ []))

block-asks : (c : Content) (cpu : Cpu) (host : Host) (bytes : Result Uf2 Uf2Fault) → Asks (uf2_served c cpu host bytes)
block-asks c cpu host (Ok b) = ruled-asks host b _
block-asks c cpu host (Err fault) = inl refl

-- what is served tells the same with the boot behind it
followed-same : (c : Content) (cpu : Cpu) (s : ServedEvent) → Asks s → (asked : Option BootKind) → s.boot ≡ asked
    → TellSame s.outcome (followed_by c cpu s asked).outcome
followed-same c cpu s asks None is = same s.outcome
followed-same c cpu s (inl none) (Some kind) is = let wrong : None ≡ Some kind = sym none ∙ is in cc
followed-same c cpu s (inr done) (Some kind) is =
    booted-same s.outcome (decision_in (after_all c s.steps) cpu kind) done

-- where no power is lost
place-same : (c : Content) (cpu : Cpu) (place : StateView) (event : EventView) → is_hosted event ≡ true
    → TellSame (outcome_before (served_in c cpu place event) (effect_in c cpu place event)) (effect_in c cpu place event).outcome
place-same c cpu Off event hosted = same _
place-same c cpu (Running program) event hosted = same _
place-same c cpu (InBootsel host) (EventView.Command command payload) hosted =
    let s = command_served c cpu host (command_in command) payload in
    followed-same c cpu s (command-asks c cpu host (command_in command) payload) s.boot refl
place-same c cpu (InBootsel host) (EventView.Uf2 block) hosted =
    let s = uf2_served c cpu host (uf2_of block) in
    followed-same c cpu s (block-asks c cpu host (uf2_of block)) s.boot refl
place-same c cpu (InBootsel host) EventView.End hosted = cc
place-same c cpu (InBootsel host) (EventView.Cut left within pattern) hosted = cc
place-same c cpu (InBootsel host) EventView.PowerOn hosted = cc
place-same c cpu (InBootsel host) (EventView.Reset kind) hosted = cc
place-same c cpu (InBootsel host) EventView.Buy hosted = cc

unserved-same : (m : MachineView) (event : EventView) → is_hosted event ≡ false
    → TellSame (came_of m event) (effect m event).outcome
unserved-same m event other =
    subst (λ (s : Option ServedEvent). TellSame (outcome_before s (effect m event)) (effect m event).outcome)
    (sym (unserved m.content m.cpu m.place event other)) (same (effect m event).outcome)

came-same : (m : MachineView) (event : EventView) → TellSame (came_of m event) (effect m event).outcome
came-same m EventView.End = unserved-same m EventView.End refl
came-same m (EventView.Command command payload) =
    place-same m.content m.cpu m.place (EventView.Command command payload) refl
came-same m (EventView.Uf2 block) = place-same m.content m.cpu m.place (EventView.Uf2 block) refl
came-same m (EventView.Cut left within pattern) = unserved-same m (EventView.Cut left within pattern) refl
came-same m EventView.PowerOn = unserved-same m EventView.PowerOn refl
came-same m (EventView.Reset kind) = unserved-same m (EventView.Reset kind) refl
came-same m EventView.Buy = unserved-same m EventView.Buy refl

-- what is noted of an event, and what comes of it
event-same : (m : MachineView) (event : EventView) → TellSame (came_in (note_of m event)) (moved_machine m event).outcome
event-same m event =
    subst (TellSame (came_in (note_of m event))) (sym (moved-outcome m event)) (go (note_of m event).whole)
  where
    go : (whole : Bool) → TellSame (unless_lost whole (came_of m event)) (unless_lost whole (effect m event).outcome)
    go true = came-same m event
    go false = same events.PowerLost

-- the events that did nothing
pub idle-seen : (lost : Bool) (n : ℕ) (m : MachineView) (events : List EventView)
    → idle_from lost n (outcomes_seen events (noted m events)) ≡ idle_from lost n (played m events).outcomes
idle-seen lost n m [] = refl
idle-seen lost n m (event ∷ events) =
    let next = (moved_machine m event).next in
    let o = came_in (note_of m event) in
    let p = (moved_machine m event).outcome in
    let tell = event-same m event in
    ap (λ (xs : List Idle). idle_here lost n o ++ xs) (idle-seen (lost || is_lost o) (n + 1) next events)
    ∙ (ap (λ (xs : List Idle). xs ++ idle_from (lost || is_lost o) (n + 1) (played next events).outcomes) (tell.idle lost n)
    ∙ ap (λ (b : Bool). idle_here lost n p ++ idle_from (lost || b) (n + 1) (played next events).outcomes) tell.lost)
