-- What starts an image in RAM: a reboot command that names its range.
use Rattle.std.proofs.Common.{◌≡◌, ◌≢◌, ℕ, ◌<◌, Bool, true, false, cond, List, [], ◌∷◌, Option, Some, None, Result, Ok, Err, refl, sym, ap, ◌∙◌, subst, arith, inl, inr, true≢false, eqb-true, length, ◌++◌, drop}
use Rattle.std.specs.Prelude.{◌==◌, ◌||◌, not, ◌&&◌, nat_le, is_some, if◌then◌else◌}
use Rattle.std.specs.Result.{result_ok}
use Rattle.pico_board.specs.declared.boot.Cpu.{Cpu}
use Rattle.pico_board.specs.declared.boot.BootKind.{BootKind}
use Rattle.pico_board.specs.declared.boot.BootKind.TheVariants.{Normal}
use Rattle.pico_board.specs.Content.{Content}
use Rattle.pico_board.specs.Steps.{after_all}
use Rattle.pico_board.specs.Cuts.{Cut}
use Rattle.load_map.specs.declared.addresses.TheConstants.{SRAM_START}
use Rattle.image_def.specs.declared.started.Started.{Started}
use Rattle.image_check.specs.declared.why.Why.{Why}
use Rattle.image_check.specs.Addressing.{in_ram}
use Rattle.image_check.specs.NotBelow.{NotBelow}
use Rattle.image_check.proofs.LawLemmas.{answered-valid, not-below}
use Rattle.picoboot_cmd.specs.declared.cmd.Cmd.{Cmd}
use Rattle.picoboot_cmd.specs.declared.cmd.CmdFault.{CmdFault}
use Rattle.picoboot_cmd.specs.declared.kinds.TheConstants.{ADDRESS, INVALID_ARGUMENT, INVALID_STATE, READ, REBOOT, TRANSFER_LENGTH, WRITE}
use Rattle.picoboot_cmd.specs.Arguments.{address, reboot_flags, reboot_p0, size}
use Rattle.picoboot_cmd.specs.Checks.{Check, check, first_failing, has_transfer}
use Rattle.picoboot_cmd.specs.Commands.{command_in}
use Rattle.info_reply.specs.declared.kinds.TheConstants.{INFO}
use Rattle.ram_start.specs.Images.{ValidRam, ram_image, ram_window}
use Rattle.ram_start.specs.Serving.{RamServed, asks_reboot, asks_transfer, is_ram_command, is_range, ram_checks, ram_command, ram_status, reboot_image, reboot_range}
use Rattle.load_map.specs.Addresses.{in_sram}
use Rattle.ram_start.specs.Sram.{RamWrite}
use Rattle.slot_choice.specs.declared.choice.Choice.{Choice}
use Rattle.boot_rules.specs.declared.decision.Decision.{Decision}
use Rattle.boot_rules.specs.declared.decision.Decision.TheVariants.{Start, Bootsel}
use Rattle.boot_rules.specs.Choosing.{decision_in}
use Rattle.boot_rules.specs.Targets.{target_of}
use Rattle.boot_script.specs.Events.{EventView}
use Rattle.uf2_place.specs.declared.block.Uf2.{Uf2}
use Rattle.uf2_place.specs.declared.block.Uf2Fault.{Uf2Fault}
use Rattle.uf2_place.specs.declared.answer.Ruling.{Ruling}
use Rattle.uf2_place.specs.declared.answer.Ruling.TheVariants.{Answered, Begins, Continues}
use Rattle.uf2_place.specs.Blocks.{uf2_of}
use Rattle.uf2_place.specs.Placement.{is_whole_download}
use Rattle.boot_machine.specs.Boots.{Effect, decided_place}
use Rattle.text_lines.specs.declared.outcome.EventOutcome.{EventOutcome}
use Rattle.boot_machine.specs.Machines.{Host, MachineView, StateView, Off, InBootsel, Running, Program, FromFlash, FromRam}
use Rattle.boot_machine.specs.Moves.{Decides, bought_choice, buy_effect, Moves, MovesBy, Plays, effect, effect_in}
use Rattle.boot_machine.specs.Runs.{IsFresh, IsBootIntoRam, PlaysWriting, StartsRam}
use Rattle.boot_machine.specs.Serving.{ServedEvent, block_served, blocks_of, command_served, followed, followed_by, ram_place, ruling_on, serves, serves_host, serves_info, serves_ram, served_event, table_of_found, uf2_served}
use Rattle.boot_machine.proofs.RamRunLemmas.{either, run-written, runs}

module _ (cmd : Cmd) (ram : is_ram_command cmd ≡ true) where
  -- a RAM command is no info command
  no-info : (info : Bool) → (cmd.id == INFO) ≡ info → info ≡ false
  no-info false is = refl
  no-info true is =
      absurd (true≢false (sym ram ∙ ap (λ id.
      ((id == READ || id == WRITE) && (cmd.arg_size == 8 && nat_le SRAM_START (address cmd)))
      || (id == REBOOT && (cmd.arg_size == 16 && (reboot_flags cmd == 3 || reboot_flags cmd == 0x103))))
      (eqb-true cmd.id INFO is)))

  -- one with the id of a reboot is one
  reboots : cmd.id ≡ REBOOT → asks_reboot cmd ≡ true
  reboots is =
      let none : asks_transfer cmd ≡ false = ap (λ id.
      (id == READ || id == WRITE) && (cmd.arg_size == 8 && nat_le SRAM_START (address cmd))) is in
      subst (λ (t : Bool). (t || asks_reboot cmd) ≡ true) none ram

  ram-kind : (c : Content) (cpu : Cpu) (host : Host) (payload : List ℕ)
      → serves c cpu host cmd payload ≡ serves_ram c cpu host cmd payload
  ram-kind c cpu host payload =
      ap (λ x. kind x (is_ram_command cmd)) (no-info (cmd.id == INFO) refl) ∙ ap (kind false) ram
    where
      kind : Bool → Bool → ServedEvent
      kind info ram =
          if info then serves_info c cpu host cmd payload
          else if ram then serves_ram c cpu host cmd payload
          else serves_host c host cmd payload

-- a RAM command does no step
pub ram-moves : (m n : MachineView) (host : Host) (command payload : List ℕ) (outcome : EventOutcome) (cmd : Cmd)
    → m.place ≡ InBootsel host → command_in command ≡ Ok cmd → is_ram_command cmd ≡ true
    → Moves m (EventView.Command command payload) n outcome
    → (n.content ≡ m.content) × (n.armed ≡ m.armed)
ram-moves m n host command payload outcome cmd at is ram moves =
    by (subst (λ (s : ServedEvent). MovesBy m m.armed (followed m.content m.cpu s) n outcome)
    (ap (λ r. command_served m.content m.cpu host r payload) is ∙ ram-kind cmd ram m.content m.cpu host payload)
    (subst (λ (p : StateView). MovesBy m m.armed
    (effect_in m.content m.cpu p (EventView.Command command payload)) n outcome) at moves))
  where
    armed : (a b : Option (Option Cut)) (c d : Content) → Decides a c [] true d b → b ≡ a
    armed None b c d is = is
    armed (Some cut) b c d is = is.next

    by : MovesBy m m.armed (followed m.content m.cpu (serves_ram m.content m.cpu host cmd payload)) n outcome
        → (n.content ≡ m.content) × (n.armed ≡ m.armed)
    by (inl done) = (done.content, armed m.armed n.armed m.content n.content done.armed_cut)
    by (inr lost) = absurd lost.content

-- a boot starts no image in RAM
no-boot : (c : Content) (d : Decision) (s : Started) → decided_place c d ≡ Running (FromRam s) → ⊥
no-boot c (Start choice) s is = cc
no-boot c (Bootsel fall) s is = cc

-- the event is a RAM command whose answer starts the image
record IsRamEvent (c : Content) (cpu : Cpu) (place : StateView) (event : EventView) (s : Started) : Type 0 where
  host : Host
  at : place ≡ InBootsel host
  command : List ℕ
  payload : List ℕ
  cmd : Cmd
  came : event ≡ EventView.Command command payload
  is : command_in command ≡ Ok cmd
  ram : is_ram_command cmd ≡ true
  start : (ram_command c host.ram cpu (is_some host.placing) cmd payload).start ≡ Some s

module _ (c : Content) (cpu : Cpu) (s : Started) where
  abbrev Starts : StateView → Type 0
  Starts place = place ≡ Running (FromRam s)

  no-follow : (served_event : ServedEvent) (boot : Option BootKind) → (Starts served_event.place → ⊥)
      → Starts (followed_by c cpu served_event boot).place → ⊥
  no-follow served_event None not is = not is
  no-follow served_event (Some kind) not is =
      no-boot (after_all c served_event.steps) (decision_in (after_all c served_event.steps) cpu kind) s is

  module _ (host : Host) where
    stays : (h : Host) → Starts (InBootsel h) → ⊥
    stays h is = cc

    no-block : (b : Uf2) (r : Ruling) → Starts (block_served host b r).place → ⊥
    no-block b (Answered answer) = stays host
    no-block b (Begins t) =
        either (λ (x : ServedEvent). Starts x.place → ⊥) (is_whole_download (b ∷ [])) _ _ (stays _) (stays _)
    no-block b (Continues t) =
        either (λ (x : ServedEvent). Starts x.place → ⊥) (is_whole_download (blocks_of host.placing ++ b ∷ [])) _ _
        (stays _) (stays _)

    no-uf2 : (r : Result Uf2 Uf2Fault) → Starts (uf2_served c cpu host r).place → ⊥
    no-uf2 (Ok b) =
        no-block b (ruling_on (length c.flash) (table_of_found host.found)
        (target_of c (table_of_found host.found) cpu b.family) host.placing b)
    no-uf2 (Err fault) = stays host

    module _ (command payload : List ℕ) where
      abbrev event : EventView
      event = EventView.Command command payload

      abbrev Event : Type 0
      Event = IsRamEvent c cpu (InBootsel host) event s

      abbrev kind : Cmd → Bool → Bool → ServedEvent
      kind cmd info ram =
          if info then serves_info c cpu host cmd payload
          else if ram then serves_ram c cpu host cmd payload
          else serves_host c host cmd payload

      by-start : (start : Option Started) (ram : List ℕ) → Starts (ram_place host start ram) → start ≡ Some s
      by-start None ram is = absurd (stays _ is)
      by-start (Some image) ram is = ap Some (same image is)
        where
          same : (image : Started) → Running (FromRam image) ≡ Running (FromRam s) → image ≡ s
          same image is = cc

      by-kind : (cmd : Cmd) (info ram : Bool) (boot : Option BootKind) → command_in command ≡ Ok cmd
          → is_ram_command cmd ≡ ram
          → Starts (followed_by c cpu (kind cmd info ram) (kind cmd info ram).boot).place → Event
      by-kind cmd true ram boot is ram-is starts = absurd (stays host starts)
      by-kind cmd false true boot is ram-is starts = record {
        host = host;
        at = refl;
        command = command;
        payload = payload;
        cmd = cmd;
        came = refl;
        is = is;
        ram = ram-is;
        start =
            by-start (ram_command c host.ram cpu (is_some host.placing) cmd payload).start
            (ram_command c host.ram cpu (is_some host.placing) cmd payload).ram starts;
      }
      by-kind cmd false false boot is ram-is starts =
          let served_event = serves_host c host cmd payload in
          absurd (no-follow served_event served_event.boot (stays host) starts)

      by-command : (r : Result Cmd CmdFault) → command_in command ≡ r
          → Starts (followed c cpu (command_served c cpu host r payload)).place → Event
      by-command (Err fault) is starts = absurd (stays host starts)
      by-command (Ok cmd) is starts = by-kind cmd (cmd.id == INFO) (is_ram_command cmd) None is refl starts

    host-event : (event : EventView) → Starts (effect_in c cpu (InBootsel host) event).place
        → IsRamEvent c cpu (InBootsel host) event s
    host-event (EventView.Command command payload) starts = by-command command payload (command_in command) refl starts
    host-event (EventView.Uf2 block) starts =
        let served_event = served_event c cpu host (EventView.Uf2 block) in
        absurd (no-follow served_event served_event.boot (no-uf2 (uf2_of block)) starts)
    host-event (EventView.Reset kind) starts = absurd (no-boot c (decision_in c cpu kind) s starts)
    host-event EventView.End starts = absurd (stays host starts)
    host-event (EventView.Cut left within pattern) starts = absurd (stays host starts)
    host-event EventView.PowerOn starts = absurd (stays host starts)
    host-event EventView.Buy starts = absurd (stays host starts)

  -- without power, and while an image runs, no image in RAM is started
  off-event : (event : EventView) → Starts (effect_in c cpu Off event).place → IsRamEvent c cpu Off event s
  off-event EventView.PowerOn starts = absurd (no-boot c (decision_in c cpu Normal) s starts)
  off-event EventView.End starts = cc
  off-event EventView.Buy starts = cc
  off-event (EventView.Command command payload) starts = cc
  off-event (EventView.Uf2 block) starts = cc
  off-event (EventView.Cut left within pattern) starts = cc
  off-event (EventView.Reset kind) starts = cc

  no-buy : (choice : Choice) → Starts (buy_effect c cpu (FromFlash choice)).place → ⊥
  no-buy choice =
      either (λ (e : Effect). Starts e.place → ⊥) choice.image.trial _ _ (flash (bought_choice choice)) (flash choice)
    where
      flash : (x : Choice) → Starts (Running (FromFlash x)) → ⊥
      flash x is = cc

  running-event : (program : Program) (event : EventView) → (Starts (Running program) → ⊥)
      → Starts (effect_in c cpu (Running program) event).place → ⊥
  running-event program (EventView.Reset kind) former starts = no-boot c (decision_in c cpu kind) s starts
  running-event (FromFlash choice) EventView.Buy former starts = no-buy choice starts
  running-event (FromRam image) EventView.Buy former starts = former starts
  running-event program EventView.PowerOn former starts = former starts
  running-event program EventView.End former starts = former starts
  running-event program (EventView.Command command payload) former starts = former starts
  running-event program (EventView.Uf2 block) former starts = former starts
  running-event program (EventView.Cut left within pattern) former starts = former starts

  module _ (event : EventView) where
    place-event : (place : StateView) → (Starts place → ⊥) → Starts (effect_in c cpu place event).place
        → IsRamEvent c cpu place event s
    place-event (InBootsel host) former starts = host-event host event starts
    place-event Off former starts = off-event event starts
    place-event (Running program) former starts = absurd (running-event program event former starts)

-- where none fails, the first passes, and none of the others fails
passes-next : (status : ℕ) (b : Bool) (ks : List Check) → 0 < status → first_failing (check status b ∷ ks) ≡ 0
    → (b ≡ true) × (first_failing ks ≡ 0)
passes-next status true ks some none = (refl, none)
passes-next status false ks some none = absurd (omega arith)

-- the start that an answer has, and the checks that it passes
module _ (c : Content) (ram : List ℕ) (cpu : Cpu) (busy : Bool) (cmd : Cmd) (payload : List ℕ) (s : Started) where
  start-of : (ok : Bool) (a b : RamServed) → (cond ok a b).start ≡ cond ok a.start b.start
  start-of true a b = refl
  start-of false a b = refl

  by-tests : (ok reboot : Bool) → (ram_status c ram cpu busy cmd payload == 0) ≡ ok → (cmd.id == REBOOT) ≡ reboot
      → cond ok (cond reboot (reboot_image c ram cpu cmd) None) None ≡ Some s
      → (ram_status c ram cpu busy cmd payload ≡ 0) × (cmd.id ≡ REBOOT) × (reboot_image c ram cpu cmd ≡ Some s)
  by-tests true true ok reboot is =
      (eqb-true (ram_status c ram cpu busy cmd payload) 0 ok, eqb-true cmd.id REBOOT reboot, is)
  by-tests true false ok reboot is = cc
  by-tests false reboot ok is-reboot is = cc

  start-parts : (ram_command c ram cpu busy cmd payload).start ≡ Some s
      → (ram_status c ram cpu busy cmd payload ≡ 0) × (cmd.id ≡ REBOOT) × (reboot_image c ram cpu cmd ≡ Some s)
  start-parts is =
      by-tests (ram_status c ram cpu busy cmd payload == 0) (cmd.id == REBOOT) refl refl
      (sym (start-of (ram_status c ram cpu busy cmd payload == 0) _ _) ∙ is)

  is-range : ram_status c ram cpu busy cmd payload ≡ 0 → cmd.id ≡ REBOOT → is_range cmd ≡ true
  is-range none is =
      let all = ram_checks c ram cpu busy cmd payload in
      let state = passes-next INVALID_STATE (not (cmd.id == WRITE && busy)) (drop 1 all) (omega arith) none in
      let transfer = passes-next TRANSFER_LENGTH (has_transfer cmd payload) (drop 2 all) (omega arith) (state.1) in
      let inside = passes-next ADDRESS (cmd.id == REBOOT || in_sram (address cmd) (size cmd)) (drop 3 all)
      (omega arith) (transfer.1) in
      let range = passes-next INVALID_ARGUMENT (not (cmd.id == REBOOT) || is_range cmd) (drop 4 all)
      (omega arith) (inside.1) in
      subst (λ (t : Bool). (not t || is_range cmd) ≡ true) (ap (λ id. id == REBOOT) is) (range.0)

  is-image : ram_image c (reboot_range ram cmd) (reboot_p0 cmd) cpu ≡ Ok s
      → ValidRam c (reboot_range ram cmd) (reboot_p0 cmd) cpu s
  is-image is =
      answered-valid (in_ram (reboot_p0 cmd)) (ram_window (reboot_p0 cmd) (reboot_range ram cmd)) cpu false c.otp
      (reboot_range ram cmd) s is

  is-valid : reboot_image c ram cpu cmd ≡ Some s → ValidRam c (reboot_range ram cmd) (reboot_p0 cmd) cpu s
  is-valid is = is-image (answered (ram_image c (reboot_range ram cmd) (reboot_p0 cmd) cpu) is)
    where
      answered : (r : Result Started Why) → result_ok r ≡ Some s → r ≡ Ok s
      answered (Ok x) is = cc
      answered (Err y) is = cc

  is-below : ValidRam c (reboot_range ram cmd) (reboot_p0 cmd) cpu s → NotBelow c.otp s
  is-below valid =
      not-below (in_ram (reboot_p0 cmd)) (ram_window (reboot_p0 cmd) (reboot_range ram cmd)) cpu false c.otp
      (reboot_range ram cmd) s valid

-- the event of a machine that starts an image in RAM
event-of : (m : MachineView) (event : EventView) (s : Started) → m.place ≢ Running (FromRam s)
    → (effect m event).place ≡ Running (FromRam s) → IsRamEvent m.content m.cpu m.place event s
event-of m (EventView.Cut left within pattern) s former starts = absurd (former starts)
event-of m EventView.End s former starts = absurd (former starts)
event-of m (EventView.Command command payload) s former starts =
    place-event m.content m.cpu s (EventView.Command command payload) m.place former starts
event-of m (EventView.Uf2 block) s former starts =
    place-event m.content m.cpu s (EventView.Uf2 block) m.place former starts
event-of m EventView.PowerOn s former starts = place-event m.content m.cpu s EventView.PowerOn m.place former starts
event-of m (EventView.Reset kind) s former starts =
    place-event m.content m.cpu s (EventView.Reset kind) m.place former starts
event-of m EventView.Buy s former starts = place-event m.content m.cpu s EventView.Buy m.place former starts

event-moved : (m n : MachineView) (event : EventView) (outcome : EventOutcome) (s : Started) → m.place ≢ Running (FromRam s)
    → n.place ≡ Running (FromRam s) → Moves m event n outcome → IsRamEvent m.content m.cpu m.place event s
event-moved m n event outcome s former running (inl done) = event-of m event s former (sym done.place ∙ running)
event-moved m n event outcome s former running (inr lost) = absurd (off (sym lost.place ∙ running))
  where
    off : Off ≡ Running (FromRam s) → ⊥
    off is = cc

pub ram-started : (m n o : MachineView) (events : List EventView) (outcomes : List EventOutcome) (event : EventView)
    (outcome : EventOutcome) (s : Started) (writes : List RamWrite)
    → IsFresh m.place → PlaysWriting m [] events n outcomes writes → StartsRam n event o outcome s
    → IsBootIntoRam n.content n.cpu event writes s × (o.content ≡ n.content)
ram-started m n o events outcomes event outcome s writes fresh run starts =
    let e = event-moved n o event outcome s starts.former starts.running starts.moves in
    let parts = start-parts n.content e.host.ram n.cpu (is_some e.host.placing) e.cmd e.payload s e.start in
    let valid = is-valid n.content e.host.ram n.cpu (is_some e.host.placing) e.cmd e.payload s (parts.2) in
    let kept = ram-moves n o e.host e.command e.payload outcome e.cmd e.at e.is e.ram
    (subst (λ (x : EventView). Moves n x o outcome) e.came starts.moves) in (
      record {
        command = e.command;
        payload = e.payload;
        cmd = e.cmd;
        came = e.came;
        is = e.is;
        asks = reboots e.cmd e.ram (parts.1);
        range =
            is-range n.content e.host.ram n.cpu (is_some e.host.placing) e.cmd e.payload s (parts.0) (parts.1);
        valid =
            subst (λ (ram : List ℕ). ValidRam n.content (reboot_range ram e.cmd) (reboot_p0 e.cmd) n.cpu s)
            (run-written m n writes events outcomes e.host fresh run e.at) valid;
        rows = is-below n.content e.host.ram n.cpu (is_some e.host.placing) e.cmd e.payload s valid;
      },
      kept.0,
    )

pub ram-starts : (m n o : MachineView) (events : List EventView) (outcomes : List EventOutcome) (event : EventView)
    (outcome : EventOutcome) (s : Started)
    → IsFresh m.place → Plays m events n outcomes → StartsRam n event o outcome s
    → ((writes : List RamWrite) × PlaysWriting m [] events n outcomes writes
    × IsBootIntoRam n.content n.cpu event writes s × (o.content ≡ n.content))
ram-starts m n o events outcomes event outcome s fresh plays starts =
    let run = runs m n [] events outcomes plays in
    let started = ram-started m n o events outcomes event outcome s (run.0) fresh (run.1) starts in
    (run.0, run.1, started.0, started.1)
