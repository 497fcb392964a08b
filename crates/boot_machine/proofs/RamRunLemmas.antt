-- The SRAM of a run is what the writes since BOOTSEL was entered have left, and an image in RAM is started from it.
use Rattle.std.proofs.Common.{◌≡◌, ℕ, Bool, true, false, cond, List, [], ◌∷◌, ◌++◌, append-nil, length, Option, Some, None, Result, Ok, Err, refl, sym, ap, ◌∙◌, subst, inl, inr, true≢false, eqb-true}
use Rattle.std.specs.Prelude.{◌==◌, ◌-◌, ◌&&◌, is_some, if◌then◌else◌, ⊤}
use Rattle.pico_board.specs.declared.boot.Cpu.{Cpu}
use Rattle.pico_board.specs.declared.boot.BootKind.{BootKind}
use Rattle.pico_board.specs.declared.boot.BootKind.TheVariants.{Normal}
use Rattle.boot_rules.specs.Targets.{target_of}
use Rattle.pico_board.specs.Content.{Content}
use Rattle.pico_board.specs.Steps.{after_all}
use Rattle.load_map.specs.declared.addresses.TheConstants.{SRAM_START}
use Rattle.image_def.specs.declared.started.Started.{Started}
use Rattle.picoboot_cmd.specs.declared.cmd.Cmd.{Cmd}
use Rattle.picoboot_cmd.specs.declared.cmd.CmdFault.{CmdFault}
use Rattle.picoboot_cmd.specs.declared.kinds.TheConstants.{WRITE}
use Rattle.picoboot_cmd.specs.Arguments.{address}
use Rattle.picoboot_cmd.specs.Commands.{command_in}
use Rattle.info_reply.specs.declared.kinds.TheConstants.{INFO}
use Rattle.ram_start.specs.Serving.{RamServed, is_ram_command, ram_served, ram_status}
use Rattle.ram_start.specs.Sram.{RamWrite, ram_after, with_bytes_at, written_ram, written_all, zero_ram}
use Rattle.boot_rules.specs.declared.decision.Decision.{Decision}
use Rattle.boot_rules.specs.declared.decision.Decision.TheVariants.{Start, Bootsel}
use Rattle.boot_rules.specs.Choosing.{decision_in}
use Rattle.boot_script.specs.Events.{EventView}
use Rattle.uf2_place.specs.declared.block.Uf2.{Uf2}
use Rattle.uf2_place.specs.declared.block.Uf2Fault.{Uf2Fault}
use Rattle.uf2_place.specs.declared.answer.Ruling.{Ruling}
use Rattle.uf2_place.specs.declared.answer.Ruling.TheVariants.{Answered, Begins, Continues}
use Rattle.uf2_place.specs.Blocks.{uf2_of}
use Rattle.uf2_place.specs.Placement.{grown, is_whole_download}
use Rattle.part_table.specs.declared.Target.{Target}
use Rattle.pico_board.specs.declared.Step.{Step}
use Rattle.boot_machine.specs.Boots.{Effect, decided_place}
use Rattle.text_lines.specs.declared.outcome.EventOutcome.{EventOutcome}
use Rattle.boot_machine.specs.Machines.{Host, MachineView, StateView, Off, InBootsel, Running, FromFlash, FromRam}
use Rattle.boot_machine.specs.Moves.{Moves, Plays, effect, effect_in}
use Rattle.boot_machine.specs.Runs.{IsFresh, PlaysWriting, command_writes, host_writes, place_writes, ram_writes, writes_behind}
use Rattle.boot_machine.specs.Serving.{ServedEvent, block_served, blocks_of, ruling_on, table_of_found, command_served, followed_by, ram_place, serves, serves_host, serves_info, serves_ram, served_event, taken_in, uf2_served}

-- one more write
written-more : (ram : List ℕ) (ws : List RamWrite) (w : RamWrite)
    → written_all ram (ws ++ w ∷ []) ≡ written_ram (written_all ram ws) w
written-more ram [] w = refl
written-more ram (v ∷ ws) w = written-more (written_ram ram v) ws w

-- a place's SRAM is what these writes have left
abbrev pub HasWritten : StateView → List RamWrite → Type 0
HasWritten Off ws = ⊤
HasWritten (InBootsel host) ws = host.ram ≡ ram_after ws
HasWritten (Running program) ws = ⊤

-- what holds of both holds of either
pub either : {A : Type 0} (P : A → Type 0) (t : Bool) (a b : A) → P a → P b → P (cond t a b)
either P true a b p q = p
either P false a b p q = q

-- a boot leaves an SRAM of zeros, or leaves BOOTSEL
booted-written : (c : Content) (d : Decision) → HasWritten (decided_place c d) []
booted-written c (Start choice) = tt
booted-written c (Bootsel fall) = refl

-- what is served leaves this, where no boot follows
abbrev Leaves : ServedEvent → List RamWrite → Type 0
Leaves s ws = HasWritten s.place ws

-- what is served leaves these writes of SRAM where no boot follows, and none where one does
followed-written : (c : Content) (cpu : Cpu) (s : ServedEvent) (ws : List RamWrite) (boot : Option BootKind)
    → Leaves s ws → HasWritten (followed_by c cpu s boot).place (if is_some boot then [] else ws)
followed-written c cpu s ws None leaves = leaves
followed-written c cpu s ws (Some kind) leaves =
    booted-written (after_all c s.steps) (decision_in (after_all c s.steps) cpu kind)

module _ (c : Content) (cpu : Cpu) (host : Host) (ws : List RamWrite) (has : host.ram ≡ ram_after ws) where
  -- a block leaves the SRAM
  taken-written : (t : Target) (blocks : List Uf2) (b : Uf2) (steps : List Step)
      → Leaves (taken_in host t blocks b steps) ws
  taken-written t blocks b steps = either (λ s. Leaves s ws) (is_whole_download blocks) _ _ has has

  block-written : (b : Uf2) (r : Ruling) → Leaves (block_served host b r) ws
  block-written b (Answered answer) = has
  block-written b (Begins t) = taken-written t (b ∷ []) b (grown t [] (b ∷ []))
  block-written b (Continues t) =
      taken-written t (blocks_of host.placing ++ b ∷ []) b
      (grown t (blocks_of host.placing) (blocks_of host.placing ++ b ∷ []))

  uf2-written : (r : Result Uf2 Uf2Fault) → Leaves (uf2_served c cpu host r) ws
  uf2-written (Ok b) =
      block-written b (ruling_on (length c.flash) (table_of_found host.found)
      (target_of c (table_of_found host.found) cpu b.family) host.placing b)
  uf2-written (Err fault) = has

  module _ (cmd : Cmd) (payload : List ℕ) where
    abbrev write : RamWrite
    write = record { address = address cmd; bytes = payload }

    abbrev status : ℕ
    status = ram_status c host.ram cpu (is_some host.placing) cmd payload

    still : host.ram ≡ ram_after (ws ++ [])
    still = has ∙ ap ram_after (sym (append-nil ws))

    -- the SRAM after a RAM command is that after its write
    left : (ok writes ram : Bool) → ram ≡ true
        → cond ok (cond writes (with_bytes_at host.ram (address cmd - SRAM_START) payload) host.ram) host.ram
        ≡ ram_after (ws ++ (if writes && (ram && ok) then write ∷ [] else []))
    left ok writes false is = absurd (true≢false (sym is))
    left true true true is =
        ap (λ (ram : List ℕ). with_bytes_at ram (address cmd - SRAM_START) payload) has
        ∙ sym (written-more zero_ram ws write)
    left true false true is = still
    left false true true is = still
    left false false true is = still

    -- what a RAM command leaves
    ram-written : is_ram_command cmd ≡ true
        → Leaves (serves_ram c cpu host cmd payload) (ws ++ ram_writes c cpu host cmd payload)
    ram-written is =
        let done = ram_served status c host.ram cpu cmd payload in
        placed done.start done.ram (ws ++ ram_writes c cpu host cmd payload)
        (ram-of (status == 0) _ _ ∙ left (status == 0) (cmd.id == WRITE) (is_ram_command cmd) is)
      where
        placed : (start : Option Started) (ram : List ℕ) (vs : List RamWrite) → ram ≡ ram_after vs
            → HasWritten (ram_place host start ram) vs
        placed None ram vs is = is
        placed (Some image) ram vs is = tt

        ram-of : (ok : Bool) (a b : RamServed) → (cond ok a b).ram ≡ cond ok a.ram b.ram
        ram-of true a b = refl
        ram-of false a b = refl

    -- another command writes nothing
    unwritten : ram_writes c cpu host cmd payload ≡ [] → host.ram ≡ ram_after (ws ++ ram_writes c cpu host cmd payload)
    unwritten none = subst (λ (vs : List RamWrite). host.ram ≡ ram_after (ws ++ vs)) (sym none) still

    no-write : (writes ok : Bool) → cond {A = List RamWrite} (writes && (false && ok)) (write ∷ []) [] ≡ []
    no-write true ok = refl
    no-write false ok = refl

    abbrev kind : Bool → Bool → ServedEvent
    kind info ram =
        if info then serves_info c cpu host cmd payload
        else if ram then serves_ram c cpu host cmd payload
        else serves_host c host cmd payload

    by-kind : (info ram : Bool) → (cmd.id == INFO) ≡ info → is_ram_command cmd ≡ ram
        → Leaves (serves c cpu host cmd payload) (ws ++ ram_writes c cpu host cmd payload)
    by-kind true ram info is =
        let other : (cmd.id == WRITE) ≡ false = ap (λ id. id == WRITE) (eqb-true cmd.id INFO info) in
        subst (λ (s : ServedEvent). Leaves s (ws ++ ram_writes c cpu host cmd payload))
        (sym (ap (λ x. kind x (is_ram_command cmd)) info))
        (unwritten (ap (λ x. if x && (is_ram_command cmd && status == 0) then write ∷ [] else []) other))
    by-kind false true info is =
        subst (λ (s : ServedEvent). Leaves s (ws ++ ram_writes c cpu host cmd payload))
        (sym (ap (λ x. kind x (is_ram_command cmd)) info ∙ ap (kind false) is)) (ram-written is)
    by-kind false false info is =
        subst (λ (s : ServedEvent). Leaves s (ws ++ ram_writes c cpu host cmd payload))
        (sym (ap (λ x. kind x (is_ram_command cmd)) info ∙ ap (kind false) is))
        (unwritten (ap (λ x. if cmd.id == WRITE && (x && status == 0) then write ∷ [] else []) is
        ∙ no-write (cmd.id == WRITE) (status == 0)))

    command-written : Leaves (serves c cpu host cmd payload) (ws ++ ram_writes c cpu host cmd payload)
    command-written = by-kind (cmd.id == INFO) (is_ram_command cmd) refl refl

  commands-written : (r : Result Cmd CmdFault) (payload : List ℕ)
      → Leaves (command_served c cpu host r payload) (ws ++ command_writes c cpu host r payload)
  commands-written (Ok cmd) payload = command-written cmd payload
  commands-written (Err fault) payload = subst (λ vs. host.ram ≡ ram_after vs) (sym (append-nil ws)) has

  host-written : (event : EventView)
      → HasWritten (effect_in c cpu (InBootsel host) event).place (host_writes c cpu host ws event)
  host-written (EventView.Command command payload) =
      let s = served_event c cpu host (EventView.Command command payload) in
      followed-written c cpu s (ws ++ command_writes c cpu host (command_in command) payload) s.boot
      (commands-written (command_in command) payload)
  host-written (EventView.Uf2 block) =
      let s = served_event c cpu host (EventView.Uf2 block) in
      followed-written c cpu s ws s.boot (uf2-written (uf2_of block))
  host-written (EventView.Reset kind) = booted-written c (decision_in c cpu kind)
  host-written EventView.End = has
  host-written (EventView.Cut left within pattern) = has
  host-written EventView.PowerOn = has
  host-written EventView.Buy = has

place-written : (c : Content) (cpu : Cpu) (place : StateView) (ws : List RamWrite) (event : EventView)
    → HasWritten place ws → HasWritten (effect_in c cpu place event).place (place_writes c cpu place ws event)
place-written c cpu Off ws EventView.PowerOn has = booted-written c (decision_in c cpu Normal)
place-written c cpu Off ws EventView.End has = tt
place-written c cpu Off ws EventView.Buy has = tt
place-written c cpu Off ws (EventView.Command command payload) has = tt
place-written c cpu Off ws (EventView.Uf2 block) has = tt
place-written c cpu Off ws (EventView.Cut left within pattern) has = tt
place-written c cpu Off ws (EventView.Reset kind) has = tt
place-written c cpu (InBootsel host) ws event has = host-written c cpu host ws has event
place-written c cpu (Running program) ws EventView.PowerOn has = tt
place-written c cpu (Running program) ws EventView.End has = tt
place-written c cpu (Running (FromFlash choice)) ws EventView.Buy has =
    either (λ (e : Effect). HasWritten e.place []) choice.image.trial _ _ tt tt
place-written c cpu (Running (FromRam image)) ws EventView.Buy has = tt
place-written c cpu (Running program) ws (EventView.Command command payload) has = tt
place-written c cpu (Running program) ws (EventView.Uf2 block) has = tt
place-written c cpu (Running program) ws (EventView.Cut left within pattern) has = tt
place-written c cpu (Running program) ws (EventView.Reset kind) has = booted-written c (decision_in c cpu kind)

-- a cut that is armed, and the end, leave the place
cut-written : (c : Content) (cpu : Cpu) (place : StateView) (ws : List RamWrite) (left : ℕ) (within : Bool)
    (pattern : List ℕ)
    → HasWritten place ws → HasWritten place (place_writes c cpu place ws (EventView.Cut left within pattern))
cut-written c cpu Off ws left within pattern has = tt
cut-written c cpu (InBootsel host) ws left within pattern has = has
cut-written c cpu (Running program) ws left within pattern has = tt

end-written : (c : Content) (cpu : Cpu) (place : StateView) (ws : List RamWrite)
    → HasWritten place ws → HasWritten place (place_writes c cpu place ws EventView.End)
end-written c cpu Off ws has = tt
end-written c cpu (InBootsel host) ws has = has
end-written c cpu (Running program) ws has = tt

effect-written : (m : MachineView) (ws : List RamWrite) (event : EventView)
    → HasWritten m.place ws → HasWritten (effect m event).place (writes_behind m ws event)
effect-written m ws (EventView.Cut left within pattern) has =
    cut-written m.content m.cpu m.place ws left within pattern has
effect-written m ws EventView.End has = end-written m.content m.cpu m.place ws has
effect-written m ws (EventView.Command command payload) has =
    place-written m.content m.cpu m.place ws (EventView.Command command payload) has
effect-written m ws (EventView.Uf2 block) has = place-written m.content m.cpu m.place ws (EventView.Uf2 block) has
effect-written m ws EventView.PowerOn has = place-written m.content m.cpu m.place ws EventView.PowerOn has
effect-written m ws (EventView.Reset kind) has = place-written m.content m.cpu m.place ws (EventView.Reset kind) has
effect-written m ws EventView.Buy has = place-written m.content m.cpu m.place ws EventView.Buy has

move-written : (m n : MachineView) (ws : List RamWrite) (event : EventView) (outcome : EventOutcome)
    → HasWritten m.place ws → Moves m event n outcome → HasWritten n.place (writes_behind m ws event)
move-written m n ws event outcome has (inl done) =
    subst (λ p. HasWritten p (writes_behind m ws event)) (sym done.place) (effect-written m ws event has)
move-written m n ws event outcome has (inr lost) =
    subst (λ p. HasWritten p (writes_behind m ws event)) (sym lost.place) tt

plays-written : (m n : MachineView) (ws vs : List RamWrite) (events : List EventView) (outcomes : List EventOutcome)
    → HasWritten m.place ws → PlaysWriting m ws events n outcomes vs → HasWritten n.place vs
plays-written m n ws vs [] outcomes has plays =
    subst (HasWritten n.place) (sym (plays.2)) (subst (λ (x : MachineView). HasWritten x.place ws) (sym (plays.0)) has)
plays-written m n ws vs (event ∷ events) outcomes has plays =
    plays-written (plays.0) n (writes_behind m ws event) vs events (plays.2)
    (move-written m (plays.0) ws event (plays.1) has (plays.3)) (plays.4)

pub runs : (m n : MachineView) (before : List RamWrite) (events : List EventView) (outcomes : List EventOutcome)
    → Plays m events n outcomes → ((behind : List RamWrite) × PlaysWriting m before events n outcomes behind)
runs m n before [] outcomes plays = (before, (plays.0, plays.1, refl))
runs m n before (event ∷ events) outcomes plays =
    let rest = runs (plays.0) n (writes_behind m before event) events (plays.2) (plays.4) in
    (rest.0, (plays.0, plays.1, plays.2, plays.3, rest.1, plays.5))

pub plays : (m n : MachineView) (before behind : List RamWrite) (events : List EventView) (outcomes : List EventOutcome)
    → PlaysWriting m before events n outcomes behind → Plays m events n outcomes
plays m n before behind [] outcomes run = (run.0, run.1)
plays m n before behind (event ∷ events) outcomes run = (
  run.0,
  run.1,
  run.2,
  run.3,
  plays (run.0) n (writes_behind m before event) behind events (run.2) (run.4),
  run.5,
)

fresh-written : (place : StateView) → IsFresh place → HasWritten place []
fresh-written Off fresh = tt
fresh-written (InBootsel host) fresh = fresh.1
fresh-written (Running program) fresh = absurd fresh

pub run-written : (m n : MachineView) (behind : List RamWrite) (events : List EventView) (outcomes : List EventOutcome)
    (host : Host)
    → IsFresh m.place → PlaysWriting m [] events n outcomes behind → n.place ≡ InBootsel host → host.ram ≡ ram_after behind
run-written m n behind events outcomes host fresh run at =
    subst (λ p. HasWritten p behind) at (plays-written m n [] behind events outcomes (fresh-written m.place fresh) run)
