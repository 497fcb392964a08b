-- Which download is current behind an event that is no block in BOOTSEL, by what is noted of it.
use Rattle.std.proofs.Common.{◌≡◌, ℕ, ◌==◌, Bool, true, false, cond, List, [], Option, Some, None, Ok, Err, refl, ap, ◌∙◌}
use Rattle.std.specs.Prelude.{◌||◌, Result, is_some, not}
use Rattle.pico_board.specs.declared.boot.BootKind.{BootKind}
use Rattle.pico_board.specs.declared.boot.BootKind.TheVariants.{Normal}
use Rattle.pico_board.specs.declared.boot.Cpu.{Cpu}
use Rattle.pico_board.specs.Content.{Content}
use Rattle.pico_board.specs.Cuts.{Cut, CutOutcome}
use Rattle.pico_board.specs.Steps.{after_all}
use Rattle.image_def.specs.declared.started.Started.{Started}
use Rattle.slot_choice.specs.declared.choice.Choice.{Choice}
use Rattle.picoboot_cmd.specs.declared.cmd.Cmd.{Cmd}
use Rattle.picoboot_cmd.specs.declared.cmd.CmdFault.{CmdFault}
use Rattle.picoboot_cmd.specs.declared.kinds.TheConstants.{OK}
use Rattle.picoboot_cmd.specs.Commands.{command_in}
use Rattle.info_reply.specs.declared.kinds.TheConstants.{INFO}
use Rattle.ram_start.specs.Serving.{is_ram_command, ram_command}
use Rattle.trial_buy.specs.Buying.{buy_steps}
use Rattle.text_lines.specs.declared.outcome.CommandAnswer.TheVariants as answers
use Rattle.text_lines.specs.declared.outcome.EventOutcome.TheVariants as events
use Rattle.text_lines.specs.Outcomes.{answer_of, has_reply, reply_sum}
use Rattle.boot_rules.specs.Choosing.{decision_in}
use Rattle.boot_script.specs.Events.{EventView}
use Rattle.boot_machine.specs.Boots.{Effect}
use Rattle.boot_machine.specs.Machines.{Host, MachineView, StateView, Off, InBootsel, Running, FromFlash, FromRam}
use Rattle.boot_machine.specs.Moves.{armed_for, bought_choice, effect, stays_with}
use Rattle.boot_machine.specs.Serving.{ServedEvent, command_served, followed_by, ram_outcome, ram_place, serves, serves_host, serves_info, serves_ram}
use Rattle.boot_machine.specs.Plays.{moved_machine, told_cut}
use Rattle.boot_tape.specs.Traces.{behind, behind_asked, came_of, note_of}
use Rattle.boot_tape.proofs.TraceLemmas.{cut-steps}
use Rattle.check_records.specs.declared.downloads.Kind.{Kind}
use Rattle.check_records.specs.Seeing.{is_other, is_over, is_start, starts, unless_lost}
use Rattle.boot_tape.specs.Doers.{is_boot}
use Rattle.check_records.specs.Shares.{kind_at, other_share, share_at, share_of}
use Rattle.check_records.proofs.BlockLemmas.{decided-none, kind_there}

-- a command that starts nothing says so
answer-stays : (id status : ℕ) (reply : List ℕ) → starts (answer_of id status reply) ≡ false
answer-stays id status reply = go (status == OK) (has_reply id)
  where
    go : (x y : Bool)
        → starts (cond x (cond y (answers.Replied (reply_sum reply)) answers.Done) (answers.Refused status)) ≡ false
    go true true = refl
    go true false = refl
    go false y = refl

-- the kind of the download behind something that ends it or does not
abbrev kind_behind : Bool → Option Kind → Option Kind
kind_behind over before = cond over None before

-- what a command does before the boot that it may ask for leaves the download, or it starts an image
abbrev IsCommanded : Host → ServedEvent → Type 0
IsCommanded host s = kind_there s.place ≡ kind_behind (is_start s.outcome) (kind_at host.placing)

stays-so : (host : Host) (b : Bool) → b ≡ false → kind_at host.placing ≡ kind_behind b (kind_at host.placing)
stays-so host true is = cc
stays-so host false is = refl

ram-so : (c : Content) (cpu : Cpu) (host : Host) (cmd : Cmd) (payload : List ℕ)
    → IsCommanded host (serves_ram c cpu host cmd payload)
ram-so c cpu host cmd payload =
    let r = ram_command c host.ram cpu (is_some host.placing) cmd payload in go r.start r.status r.reply r.ram
  where
    go : (start : Option Started) (status : ℕ) (reply ram : List ℕ) → IsCommanded host (record {
      steps = [];
      place = ram_place host start ram;
      outcome = ram_outcome cmd status reply start;
      boot = None;
    })
    go None status reply ram = stays-so host _ (answer-stays cmd.id status reply)
    go (Some image) status reply ram = refl

serves-so : (c : Content) (cpu : Cpu) (host : Host) (cmd : Cmd) (payload : List ℕ)
    → IsCommanded host (serves c cpu host cmd payload)
serves-so c cpu host cmd payload = go (cmd.id == INFO) (is_ram_command cmd)
  where
    go : (x y : Bool) → IsCommanded host (cond x (serves_info c cpu host cmd payload)
        (cond y (serves_ram c cpu host cmd payload) (serves_host c host cmd payload)))
    go true y = stays-so host _ (answer-stays cmd.id _ _)
    go false true = ram-so c cpu host cmd payload
    go false false = stays-so host _ (answer-stays cmd.id _ _)

command-so : (c : Content) (cpu : Cpu) (host : Host) (cmd : Result Cmd CmdFault) (payload : List ℕ)
    → IsCommanded host (command_served c cpu host cmd payload)
command-so c cpu host (Ok cmd) payload = serves-so c cpu host cmd payload
command-so c cpu host (Err fault) payload = refl

-- with the boot behind it
asked-so : (c : Content) (cpu : Cpu) (host : Host) (s : ServedEvent) → IsCommanded host s → (asked : Option BootKind)
    → kind_there (followed_by c cpu s asked).place
    ≡ kind_behind (is_boot (behind_asked asked) || is_start s.outcome) (kind_at host.placing)
asked-so c cpu host s is None = is
asked-so c cpu host s is (Some kind) =
    decided-none (after_all c s.steps) (decision_in (after_all c s.steps) cpu kind)

-- an event where no power is lost: none is current behind a boot and where an image is started, and else the same
abbrev IsSo : MachineView → EventView → Type 0
IsSo m event =
    kind_there (effect m event).place
    ≡ kind_behind (is_boot (behind m event) || is_start (came_of m event)) (kind_there m.place)

-- what runs buys itself, or has nothing to buy
abbrev bought_by : Content → Cpu → Choice → Bool → Effect
bought_by c cpu choice trial =
    cond trial (record {
      steps = buy_steps c cpu choice;
      place = Running (FromFlash (bought_choice choice));
      outcome = events.Bought;
    })
    (stays_with (Running (FromFlash choice)) events.NothingToBuy)

bought-so : (c : Content) (cpu : Cpu) (choice : Choice) (trial : Bool)
    → kind_there (bought_by c cpu choice trial).place
    ≡ kind_behind (false || is_start (bought_by c cpu choice trial).outcome) None
bought-so c cpu choice true = refl
bought-so c cpu choice false = refl

effect-so : (c : Content) (cpu : Cpu) (armed : Option (Option Cut)) (place : StateView) (event : EventView)
    → is_other place event ≡ true → IsSo (record { content = c; armed = armed; cpu = cpu; place = place }) event
effect-so c cpu armed Off EventView.PowerOn other = decided-none c (decision_in c cpu Normal)
effect-so c cpu armed Off EventView.End other = refl
effect-so c cpu armed Off (EventView.Command command payload) other = refl
effect-so c cpu armed Off (EventView.Uf2 block) other = refl
effect-so c cpu armed Off (EventView.Cut left within pattern) other = refl
effect-so c cpu armed Off (EventView.Reset kind) other = refl
effect-so c cpu armed Off EventView.Buy other = refl
effect-so c cpu armed (InBootsel host) (EventView.Command command payload) other =
    let s = command_served c cpu host (command_in command) payload in
    asked-so c cpu host s (command-so c cpu host (command_in command) payload) s.boot
effect-so c cpu armed (InBootsel host) (EventView.Uf2 block) other = cc
effect-so c cpu armed (InBootsel host) (EventView.Reset kind) other = decided-none c (decision_in c cpu kind)
effect-so c cpu armed (InBootsel host) EventView.End other = refl
effect-so c cpu armed (InBootsel host) (EventView.Cut left within pattern) other = refl
effect-so c cpu armed (InBootsel host) EventView.PowerOn other = refl
effect-so c cpu armed (InBootsel host) EventView.Buy other = refl
effect-so c cpu armed (Running program) (EventView.Reset kind) other = decided-none c (decision_in c cpu kind)
effect-so c cpu armed (Running (FromRam image)) EventView.Buy other = refl
effect-so c cpu armed (Running (FromFlash choice)) EventView.Buy other = bought-so c cpu choice choice.image.trial
effect-so c cpu armed (Running program) EventView.End other = refl
effect-so c cpu armed (Running program) (EventView.Command command payload) other = refl
effect-so c cpu armed (Running program) (EventView.Uf2 block) other = refl
effect-so c cpu armed (Running program) (EventView.Cut left within pattern) other = refl
effect-so c cpu armed (Running program) EventView.PowerOn other = refl

-- what an event comes to, by whether all its steps complete
pub moved-place : (m : MachineView) (event : EventView)
    → (moved_machine m event).next.place ≡ cond (note_of m event).whole (effect m event).place Off
unfolding moved_machine
moved-place m event =
    ap (λ (o : CutOutcome). cond o.answer (effect m event).place Off)
    (cut-steps (effect m event).steps (told_cut (armed_for m.armed event)) m.content)

pub moved-outcome : (m : MachineView) (event : EventView)
    → (moved_machine m event).outcome ≡ unless_lost (note_of m event).whole (effect m event).outcome
unfolding moved_machine
moved-outcome m event =
    ap (λ (o : CutOutcome). unless_lost o.answer (effect m event).outcome)
    (cut-steps (effect m event).steps (told_cut (armed_for m.armed event)) m.content)

pub other-kind : (m : MachineView) (event : EventView) → is_other m.place event ≡ true
    → kind_there (moved_machine m event).next.place ≡ kind_behind (is_over (note_of m event)) (kind_there m.place)
other-kind m event other =
    ap kind_there (moved-place m event)
    ∙ go (note_of m event).whole (effect-so m.content m.cpu m.armed m.place event other)
  where
    go : (whole : Bool) → IsSo m event
        → kind_there (cond whole (effect m event).place Off)
        ≡ kind_behind (not whole || (is_boot (behind m event) || is_start (came_of m event))) (kind_there m.place)
    go true so = so
    go false so = refl

-- what the event has to do with downloads
pub other-share : (m : MachineView) (event : EventView) → is_other m.place event ≡ true
    → share_of m event ≡ other_share (moved_machine m event).next.place
unfolding share_of
other-share m event other = go m.place event other
  where
    go : (place : StateView) (e : EventView) → is_other place e ≡ true
        → share_at m place e ≡ other_share (moved_machine m e).next.place
    go Off e other = refl
    go (Running program) e other = refl
    go (InBootsel host) EventView.End other = refl
    go (InBootsel host) (EventView.Command command payload) other = refl
    go (InBootsel host) (EventView.Uf2 block) other = cc
    go (InBootsel host) (EventView.Cut left within pattern) other = refl
    go (InBootsel host) EventView.PowerOn other = refl
    go (InBootsel host) (EventView.Reset kind) other = refl
    go (InBootsel host) EventView.Buy other = refl
