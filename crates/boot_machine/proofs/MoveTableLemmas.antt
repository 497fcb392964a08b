-- The table of BOOTSEL: found at entry, and kept.
use Rattle.std.proofs.Common.{◌≡◌, ◌≢◌, ◌⊎◌, append-nil, ap, ℕ, List, [], ◌∷◌, ◌++◌, Option, Some, None, Result, Ok, Err, refl, sym, ◌∙◌, subst, inl, inr, length}
use Rattle.std.specs.Prelude.{◌==◌, ⊤}
use Rattle.pico_board.specs.declared.boot.Cpu.{Cpu}
use Rattle.pico_board.specs.declared.boot.BootKind.{BootKind}
use Rattle.pico_board.specs.declared.boot.BootKind.TheVariants.{Normal}
use Rattle.pico_board.specs.Content.{Content}
use Rattle.pico_board.specs.Cuts.{Cut}
use Rattle.pico_board.specs.Steps.{after_all}
use Rattle.pico_board.specs.declared.Step.{Step}
use Rattle.part_table.specs.declared.Target.{Target}
use Rattle.image_def.specs.declared.started.Started.{Started}
use Rattle.uf2_place.specs.declared.block.Uf2.{Uf2}
use Rattle.uf2_place.specs.declared.block.Uf2Fault.{Uf2Fault}
use Rattle.uf2_place.specs.declared.answer.Ruling.{Ruling}
use Rattle.uf2_place.specs.declared.answer.Ruling.TheVariants.{Answered, Begins, Continues}
use Rattle.uf2_place.specs.Blocks.{uf2_of}
use Rattle.uf2_place.specs.Placement.{grown, is_whole_download}
use Rattle.picoboot_cmd.specs.declared.cmd.Cmd.{Cmd}
use Rattle.picoboot_cmd.specs.declared.cmd.CmdFault.{CmdFault}
use Rattle.picoboot_cmd.specs.Commands.{command_in}
use Rattle.info_reply.specs.declared.kinds.TheConstants.{INFO}
use Rattle.ram_start.specs.Serving.{is_ram_command}
use Rattle.boot_rules.specs.Choosing.{decision_in}
use Rattle.boot_rules.specs.Targets.{target_of}
use Rattle.boot_rules.specs.declared.decision.Decision.{Decision}
use Rattle.boot_rules.specs.declared.decision.Decision.TheVariants.{Start, Bootsel}
use Rattle.boot_rules.specs.declared.tables.Found.{Found}
use Rattle.boot_script.specs.Events.{EventView}
use Rattle.boot_machine.specs.Boots.{Effect, decided_place, decided_steps, entered}
use Rattle.boot_machine.specs.Machines.{Host, MachineView, StateView, Off, InBootsel, Running}
use Rattle.text_lines.specs.declared.outcome.EventOutcome.{EventOutcome}
use Rattle.boot_machine.specs.Moves.{Moves, MovesBy, armed_for, effect, effect_in}
use Rattle.boot_machine.specs.Serving.{ServedEvent, block_served, blocks_of, command_served, followed_by, ram_place, ruling_on, serves, serves_ram, served_event, table_of_found, taken_in, uf2_served}
use Rattle.boot_machine.proofs.RamRunLemmas.{either}

-- what is served leaves this table
abbrev Keeps : Option Found → StateView → Type 0
Keeps f Off = ⊤
Keeps f (InBootsel host) = host.found ≡ f
Keeps f (Running program) = ⊤

-- the table is this one, or BOOTSEL is as it is entered on this content
abbrev HasTable : Content → Option Found → StateView → Type 0
HasTable c f Off = ⊤
HasTable c f (InBootsel host) = (host.found ≡ f) ⊎ (InBootsel host ≡ entered c)
HasTable c f (Running program) = ⊤

lift : (c : Content) (f : Option Found) (place : StateView) → Keeps f place → HasTable c f place
lift c f Off keeps = tt
lift c f (InBootsel host) keeps = inl keeps
lift c f (Running program) keeps = tt

-- BOOTSEL is as it is entered on this content
abbrev IsEntered : Content → StateView → Type 0
IsEntered c Off = ⊤
IsEntered c (InBootsel host) = InBootsel host ≡ entered c
IsEntered c (Running program) = ⊤

booted-entered : (c : Content) (cpu : Cpu) (d : Decision)
    → IsEntered (after_all c (decided_steps c cpu d)) (decided_place c d)
booted-entered c cpu (Start choice) = tt
booted-entered c cpu (Bootsel fall) = refl

entered-table : (c : Content) (f : Option Found) (place : StateView) → IsEntered c place → HasTable c f place
entered-table c f Off is = tt
entered-table c f (InBootsel host) is = inr is
entered-table c f (Running program) is = tt

booted-table : (c : Content) (cpu : Cpu) (f : Option Found) (steps : List Step) (d : Decision)
    → HasTable (after_all c (steps ++ decided_steps (after_all c steps) cpu d)) f
    (decided_place (after_all c steps) d)
booted-table c cpu f steps (Start choice) = tt
booted-table c cpu f steps (Bootsel fall) =
    inr (ap (λ xs. entered (after_all c xs)) (sym (append-nil steps)))

module _ (c : Content) (cpu : Cpu) (host : Host) where
  abbrev Leaves : ServedEvent → Type 0
  Leaves s = Keeps host.found s.place

  taken-table : (t : Target) (blocks : List Uf2) (b : Uf2) (steps : List Step) → Leaves (taken_in host t blocks b steps)
  taken-table t blocks b steps = either Leaves (is_whole_download blocks) _ _ refl refl

  block-table : (b : Uf2) (r : Ruling) → Leaves (block_served host b r)
  block-table b (Answered answer) = refl
  block-table b (Begins t) = taken-table t (b ∷ []) b (grown t [] (b ∷ []))
  block-table b (Continues t) =
      taken-table t (blocks_of host.placing ++ b ∷ []) b
      (grown t (blocks_of host.placing) (blocks_of host.placing ++ b ∷ []))

  uf2-table : (r : Result Uf2 Uf2Fault) → Leaves (uf2_served c cpu host r)
  uf2-table (Ok b) =
      block-table b (ruling_on (length c.flash) (table_of_found host.found)
      (target_of c (table_of_found host.found) cpu b.family) host.placing b)
  uf2-table (Err fault) = refl

  ram-table : (start : Option Started) (ram : List ℕ) → Keeps host.found (ram_place host start ram)
  ram-table None ram = refl
  ram-table (Some image) ram = tt

  serves-table : (cmd : Cmd) (payload : List ℕ) → Leaves (serves c cpu host cmd payload)
  serves-table cmd payload =
      either Leaves (cmd.id == INFO) _ _ refl
      (either Leaves (is_ram_command cmd) (serves_ram c cpu host cmd payload) _ (ram-table _ _) refl)

  command-table : (r : Result Cmd CmdFault) (payload : List ℕ) → Leaves (command_served c cpu host r payload)
  command-table (Ok cmd) payload = serves-table cmd payload
  command-table (Err fault) payload = refl

  abbrev Says : Effect → Type 0
  Says e = HasTable (after_all c e.steps) host.found e.place

  followed-table : (s : ServedEvent) (boot : Option BootKind) → Leaves s → Says (followed_by c cpu s boot)
  followed-table s None keeps = lift (after_all c s.steps) host.found s.place keeps
  followed-table s (Some kind) keeps =
      booted-table c cpu host.found s.steps (decision_in (after_all c s.steps) cpu kind)

  host-table : (event : EventView) → Says (effect_in c cpu (InBootsel host) event)
  host-table (EventView.Command command payload) =
      let s = served_event c cpu host (EventView.Command command payload) in
      followed-table s s.boot (command-table (command_in command) payload)
  host-table (EventView.Uf2 block) =
      let s = served_event c cpu host (EventView.Uf2 block) in followed-table s s.boot (uf2-table (uf2_of block))
  host-table (EventView.Reset kind) =
      let d = decision_in c cpu kind in
      entered-table (after_all c (decided_steps c cpu d)) host.found (decided_place c d) (booted-entered c cpu d)
  host-table EventView.End = inl refl
  host-table EventView.PowerOn = inl refl
  host-table EventView.Buy = inl refl
  host-table (EventView.Cut left within pattern) = inl refl

at-place : (c : Content) (f : Option Found) (place : StateView) (other : Host) → place ≡ InBootsel other
    → HasTable c f place
    → (other.found ≡ f) ⊎ (InBootsel other ≡ entered c)
at-place c f place other at has = subst (HasTable c f) at has

at-entered : (c : Content) (place : StateView) (other : Host) → place ≡ InBootsel other → IsEntered c place
    → InBootsel other ≡ entered c
at-entered c place other at is = subst (IsEntered c) at is

not-off : {P : Type 0} (place : StateView) (other : Host) → place ≡ Off → place ≡ InBootsel other → P
not-off place other off at = let no : Off ≡ InBootsel other = sym off ∙ at in cc no

by-effect : (m n : MachineView) (e : Effect) (outcome : EventOutcome) (armed : Option (Option Cut)) (host other : Host)
    → HasTable (after_all m.content e.steps) host.found e.place → MovesBy m armed e n outcome → n.place ≡ InBootsel other
    → (other.found ≡ host.found) ⊎ (InBootsel other ≡ entered n.content)
by-effect m n e outcome armed host other has (inr lost) at = not-off n.place other lost.place at
by-effect m n e outcome armed host other has (inl done) at =
    subst (λ (c : Content). (other.found ≡ host.found) ⊎ (InBootsel other ≡ entered c)) (sym done.content)
    (at-place (after_all m.content e.steps) host.found e.place other (sym done.place ∙ at) has)

by-boot : (m n : MachineView) (e : Effect) (outcome : EventOutcome) (armed : Option (Option Cut)) (other : Host)
    → IsEntered (after_all m.content e.steps) e.place → MovesBy m armed e n outcome → n.place ≡ InBootsel other
    → InBootsel other ≡ entered n.content
by-boot m n e outcome armed other is (inr lost) at = not-off n.place other lost.place at
by-boot m n e outcome armed other is (inl done) at =
    subst (λ (c : Content). InBootsel other ≡ entered c) (sym done.content)
    (at-entered (after_all m.content e.steps) e.place other (sym done.place ∙ at) is)

pub table-kept : (m n : MachineView) (host other : Host) (event : EventView) (outcome : EventOutcome) → m.place ≡ InBootsel host
    → Moves m event n outcome → n.place ≡ InBootsel other
    → (other.found ≡ host.found) ⊎ (InBootsel other ≡ entered n.content)
table-kept m n host other event outcome at moves there =
    by-effect m n (effect m event) outcome (armed_for m.armed event) host other (has event) moves there
  where
    in-bootsel : (event : EventView)
        → HasTable (after_all m.content (effect_in m.content m.cpu m.place event).steps) host.found
        (effect_in m.content m.cpu m.place event).place
    in-bootsel event =
        subst (λ (p : StateView). HasTable (after_all m.content (effect_in m.content m.cpu p event).steps) host.found
        (effect_in m.content m.cpu p event).place) (sym at) (host-table m.content m.cpu host event)

    still : HasTable m.content host.found m.place
    still = subst (HasTable m.content host.found) (sym at) (inl refl)

    has : (event : EventView) → HasTable (after_all m.content (effect m event).steps) host.found (effect m event).place
    has (EventView.Cut left within pattern) = still
    has EventView.End = still
    has (EventView.Command command payload) = in-bootsel (EventView.Command command payload)
    has (EventView.Uf2 block) = in-bootsel (EventView.Uf2 block)
    has EventView.PowerOn = in-bootsel EventView.PowerOn
    has (EventView.Reset kind) = in-bootsel (EventView.Reset kind)
    has EventView.Buy = in-bootsel EventView.Buy

pub table-reset : (m n : MachineView) (other : Host) (kind : BootKind) (outcome : EventOutcome) → m.place ≢ Off
    → Moves m (EventView.Reset kind) n outcome → n.place ≡ InBootsel other → InBootsel other ≡ entered n.content
table-reset m n other kind outcome on moves there =
    by-boot m n (effect m (EventView.Reset kind)) outcome (armed_for m.armed (EventView.Reset kind)) other
    (boots m.place on) moves there
  where
    boots : (place : StateView) → place ≢ Off
        → IsEntered (after_all m.content (effect_in m.content m.cpu place (EventView.Reset kind)).steps)
        (effect_in m.content m.cpu place (EventView.Reset kind)).place
    boots Off on = absurd (on refl)
    boots (InBootsel host) on = booted-entered m.content m.cpu (decision_in m.content m.cpu kind)
    boots (Running program) on = booted-entered m.content m.cpu (decision_in m.content m.cpu kind)

pub table-power : (m n : MachineView) (other : Host) (outcome : EventOutcome) → m.place ≡ Off
    → Moves m EventView.PowerOn n outcome → n.place ≡ InBootsel other → InBootsel other ≡ entered n.content
table-power m n other outcome off moves there =
    by-boot m n (effect m EventView.PowerOn) outcome (armed_for m.armed EventView.PowerOn) other
    (subst (λ (p : StateView). IsEntered (after_all m.content (effect_in m.content m.cpu p EventView.PowerOn).steps)
    (effect_in m.content m.cpu p EventView.PowerOn).place) (sym off)
    (booted-entered m.content m.cpu (decision_in m.content m.cpu Normal))) moves there
