-- Where the blocks of a script have the same targets on two contents.
use Rattle.std.proofs.Common.{◌≡◌, ◌⊎◌, inl, inr, ℕ, ◌==◌, Bool, true, false, cond, List, [], ◌∷◌, ◌++◌, length, Option, Some, None, Result, Ok, Err, refl, sym, ◌∙◌, subst}
use Rattle.std.specs.Prelude.{⊤}
use Rattle.std.specs.List.{AllByRecursion}
use Rattle.pico_board.specs.declared.boot.Cpu.{Cpu}
use Rattle.pico_board.specs.declared.boot.BootKind.{BootKind}
use Rattle.pico_board.specs.declared.Step.{Step}
use Rattle.pico_board.specs.Content.{Content}
use Rattle.pico_board.specs.Steps.{after_all}
use Rattle.part_table.specs.declared.target.Target.{Target}
use Rattle.image_def.specs.declared.started.Started.{Started}
use Rattle.picoboot_cmd.specs.declared.cmd.Cmd.{Cmd}
use Rattle.picoboot_cmd.specs.declared.cmd.CmdFault.{CmdFault}
use Rattle.picoboot_cmd.specs.Commands.{command_in}
use Rattle.info_reply.specs.declared.kinds.TheConstants.{INFO}
use Rattle.ram_start.specs.Serving.{is_ram_command}
use Rattle.uf2_place.specs.declared.block.Uf2.{Uf2}
use Rattle.uf2_place.specs.declared.block.Uf2Fault.{Uf2Fault}
use Rattle.uf2_place.specs.declared.answer.Ruling.{Ruling}
use Rattle.uf2_place.specs.declared.answer.Ruling.TheVariants.{Answered, Begins, Continues}
use Rattle.uf2_place.specs.Blocks.{uf2_of}
use Rattle.uf2_place.specs.Placement.{grown, is_whole_download}
use Rattle.boot_rules.specs.declared.tables.Found.{Found}
use Rattle.boot_rules.specs.Targets.{target_of}
use Rattle.boot_script.specs.Events.{EventView}
use Rattle.boot_machine.specs.Machines.{Host, StateView, Off, InBootsel, Running}
use Rattle.boot_machine.specs.Serving.{ServedEvent, block_served, blocks_of, command_served, ram_place, ruling_on, served_event, serves_host, serves_info, serves_ram, table_of_found, taken_in, uf2_served}
use Rattle.law_updates.specs.Again.{IsNoBlock}
use Rattle.law_updates.specs.Targets.{AsksFor, AsksOnce, HasSameTarget, HaveSameTargets, IsAsked, NoneAsks, then_on}

-- what holds wherever an event stays in BOOTSEL
then-each : (P Q : Host → Type 0) → ((host : Host) → P host → Q host) → (boot : Option BootKind) (place : StateView)
    → then_on P boot place → then_on Q boot place
then-each P Q each (Some kind) place holds = tt
then-each P Q each None Off holds = tt
then-each P Q each None (Running program) holds = tt
then-each P Q each None (InBootsel host) holds = each host holds

pub then-all : (Q : Host → Type 0) → ((host : Host) → Q host) → (boot : Option BootKind) (place : StateView)
    → then_on Q boot place
then-all Q each boot place = then-each (λ host. ⊤) Q (λ host t. each host) boot place (plain boot place)
  where
    plain : (boot : Option BootKind) (place : StateView) → then_on (λ host. ⊤) boot place
    plain (Some kind) place = tt
    plain None Off = tt
    plain None (Running program) = tt
    plain None (InBootsel host) = tt

-- commands ask for none
pub commands-same : (c d : Content) (cpu : Cpu) (host : Host) (events : List EventView)
    → AllByRecursion IsNoBlock events → HaveSameTargets c d cpu host events
commands-same c d cpu host [] none = tt
commands-same c d cpu host (EventView.Command command payload ∷ events) none =
    let event = EventView.Command command payload in
    let s = served_event c cpu host event in
    let t = served_event d cpu host event in (
      record { same = λ family asks. absurd asks },
      then-all (λ next. HaveSameTargets (after_all c s.steps) (after_all d t.steps) cpu next events)
          (λ next. commands-same (after_all c s.steps) (after_all d t.steps) cpu next events none.1) s.boot s.place,
    )
commands-same c d cpu host (EventView.Uf2 block ∷ events) none = absurd none.0
commands-same c d cpu host (EventView.End ∷ events) none = commands-same c d cpu host events none.1
commands-same c d cpu host (EventView.Cut after within pattern ∷ events) none =
    commands-same c d cpu host events none.1
commands-same c d cpu host (EventView.PowerOn ∷ events) none = commands-same c d cpu host events none.1
commands-same c d cpu host (EventView.Reset kind ∷ events) none = commands-same c d cpu host events none.1
commands-same c d cpu host (EventView.Buy ∷ events) none = commands-same c d cpu host events none.1

-- where none asks, any two contents have the same targets
quiet-event : (c d : Content) (cpu : Cpu) (host : Host) (event : EventView) (events : List EventView)
    → ((x y : Content) (next : Host) → NoneAsks x cpu next events → HaveSameTargets x y cpu next events)
    → ((family : ℕ) → AsksFor (length c.flash) host family event → ⊥)
    → (let s = served_event c cpu host event in
    then_on (λ next. NoneAsks (after_all c s.steps) cpu next events) s.boot s.place)
    → HasSameTarget c d cpu host event × (let s = served_event c cpu host event in
    then_on (λ next. HaveSameTargets (after_all c s.steps)
    (after_all d (served_event d cpu host event).steps) cpu next events) s.boot s.place)
quiet-event c d cpu host event events more none rest =
    let s = served_event c cpu host event in
    let t = served_event d cpu host event in (
      record { same = λ family asks. absurd (none family asks) },
      then-each (λ next. NoneAsks (after_all c s.steps) cpu next events)
          (λ next. HaveSameTargets (after_all c s.steps) (after_all d t.steps) cpu next events)
          (λ next quiet. more (after_all c s.steps) (after_all d t.steps) next quiet) s.boot s.place rest,
    )

quiet-same : (c d : Content) (cpu : Cpu) (host : Host) (events : List EventView) → NoneAsks c cpu host events
    → HaveSameTargets c d cpu host events
quiet-same c d cpu host [] none = tt
quiet-same c d cpu host (EventView.Command command payload ∷ events) none =
    quiet-event c d cpu host (EventView.Command command payload) events
    (λ x y next quiet. quiet-same x y cpu next events quiet) none.0 none.1
quiet-same c d cpu host (EventView.Uf2 block ∷ events) none =
    quiet-event c d cpu host (EventView.Uf2 block) events
    (λ x y next quiet. quiet-same x y cpu next events quiet) none.0 none.1
quiet-same c d cpu host (EventView.End ∷ events) none = quiet-same c d cpu host events none
quiet-same c d cpu host (EventView.Cut after within pattern ∷ events) none = quiet-same c d cpu host events none
quiet-same c d cpu host (EventView.PowerOn ∷ events) none = quiet-same c d cpu host events none
quiet-same c d cpu host (EventView.Reset kind ∷ events) none = quiet-same c d cpu host events none
quiet-same c d cpu host (EventView.Buy ∷ events) none = quiet-same c d cpu host events none

-- BOOTSEL goes on with its table
abbrev Keeps : Option Found → StateView → Type 0
Keeps found Off = ⊤
Keeps found (InBootsel host) = host.found ≡ found
Keeps found (Running program) = ⊤

either-keeps : (found : Option Found) (t : Bool) (a b : ServedEvent) → Keeps found a.place → Keeps found b.place
    → Keeps found (cond t a b).place
either-keeps found true a b first rest = first
either-keeps found false a b first rest = rest

taken-keeps : (host : Host) (t : Target) (blocks : List Uf2) (b : Uf2) (steps : List Step)
    → Keeps host.found (taken_in host t blocks b steps).place
taken-keeps host t blocks b steps = either-keeps host.found (is_whole_download blocks) _ _ refl refl

ruled-keeps : (host : Host) (b : Uf2) (r : Ruling) → Keeps host.found (block_served host b r).place
ruled-keeps host b (Answered answer) = refl
ruled-keeps host b (Begins t) = taken-keeps host t (b ∷ []) b (grown t [] (b ∷ []))
ruled-keeps host b (Continues t) =
    taken-keeps host t (blocks_of host.placing ++ b ∷ []) b
    (grown t (blocks_of host.placing) (blocks_of host.placing ++ b ∷ []))

block-keeps : (c : Content) (cpu : Cpu) (host : Host) (r : Result Uf2 Uf2Fault)
    → Keeps host.found (uf2_served c cpu host r).place
block-keeps c cpu host (Err fault) = refl
block-keeps c cpu host (Ok b) =
    ruled-keeps host b
    (ruling_on (length c.flash) (table_of_found host.found) (target_of c (table_of_found host.found) cpu b.family)
    host.placing b)

ram-keeps : (host : Host) (start : Option Started) (ram : List ℕ) → Keeps host.found (ram_place host start ram)
ram-keeps host None ram = refl
ram-keeps host (Some image) ram = tt

command-keeps : (c : Content) (cpu : Cpu) (host : Host) (r : Result Cmd CmdFault) (payload : List ℕ)
    → Keeps host.found (command_served c cpu host r payload).place
command-keeps c cpu host (Err fault) payload = refl
command-keeps c cpu host (Ok cmd) payload =
    either-keeps host.found (cmd.id == INFO) (serves_info c cpu host cmd payload) _ refl
    (either-keeps host.found (is_ram_command cmd) (serves_ram c cpu host cmd payload) (serves_host c host cmd payload)
    (ram-keeps host _ _) refl)

then-kept : (found : Option Found) (P Q : Host → Type 0) → ((host : Host) → host.found ≡ found → P host → Q host)
    → (boot : Option BootKind) (place : StateView) → Keeps found place → then_on P boot place → then_on Q boot place
then-kept found P Q each (Some kind) place keeps holds = tt
then-kept found P Q each None Off keeps holds = tt
then-kept found P Q each None (Running program) keeps holds = tt
then-kept found P Q each None (InBootsel host) keeps holds = each host keeps holds

-- an event asks for one family
one-family : (n a b : ℕ) (host : Host) (event : EventView) → AsksFor n host a event → AsksFor n host b event → a ≡ b
one-family n a b host (EventView.Uf2 block) first other = go (uf2_of block) first other
  where
    go : (r : Result Uf2 Uf2Fault) → IsAsked n host a r → IsAsked n host b r → a ≡ b
    go (Ok x) one two = sym one.1 ∙ two.1
    go (Err fault) one two = absurd one
one-family n a b host (EventView.Command command payload) first other = absurd first
one-family n a b host EventView.End first other = absurd first
one-family n a b host (EventView.Cut after within pattern) first other = absurd first
one-family n a b host EventView.PowerOn first other = absurd first
one-family n a b host (EventView.Reset kind) first other = absurd first
one-family n a b host EventView.Buy first other = absurd first

-- an event of a host, where the first block that asks does so before any step
first-event : (c d : Content) (cpu : Cpu) (family : ℕ) (host : Host) (event : EventView) (events : List EventView)
    → target_of d (table_of_found host.found) cpu family ≡ target_of c (table_of_found host.found) cpu family
    → Keeps host.found (served_event c cpu host event).place
    → ((next : Host) → next.found ≡ host.found → AsksOnce c d cpu family next events
    → HaveSameTargets c d cpu next events)
    → (let s = served_event c cpu host event in
    (AsksFor (length c.flash) host family event
    × then_on (λ next. NoneAsks (after_all c s.steps) cpu next events) s.boot s.place)
    ⊎ (((other : ℕ) → AsksFor (length c.flash) host other event → ⊥) × (s.steps ≡ [])
    × ((served_event d cpu host event).steps ≡ [])
    × then_on (λ next. AsksOnce c d cpu family next events) s.boot s.place))
    → HasSameTarget c d cpu host event × (let s = served_event c cpu host event in
    then_on (λ next. HaveSameTargets (after_all c s.steps)
    (after_all d (served_event d cpu host event).steps) cpu next events) s.boot s.place)
first-event c d cpu family host event events same keeps more (inl asks) =
    let s = served_event c cpu host event in
    let t = served_event d cpu host event in
    let table = table_of_found host.found in (
      record {
        same = λ other other_asks.
            subst (λ f. target_of d table cpu f ≡ target_of c table cpu f)
            (one-family (length c.flash) family other host event asks.0 other_asks) same;
      },
      then-each (λ next. NoneAsks (after_all c s.steps) cpu next events)
          (λ next. HaveSameTargets (after_all c s.steps) (after_all d t.steps) cpu next events)
          (λ next quiet. quiet-same (after_all c s.steps) (after_all d t.steps) cpu next events quiet) s.boot s.place asks.1,
    )
first-event c d cpu family host event events same keeps more (inr quiet) =
    let s = served_event c cpu host event in
    let t = served_event d cpu host event in (
      record { same = λ other asks. absurd (quiet.0 other asks) },
      then-kept host.found (λ next. AsksOnce c d cpu family next events)
          (λ next. HaveSameTargets (after_all c s.steps) (after_all d t.steps) cpu next events)
          (λ next found once.
          subst (λ xs. HaveSameTargets (after_all c xs) (after_all d t.steps) cpu next events) (sym quiet.1)
          (subst (λ ys. HaveSameTargets c (after_all d ys) cpu next events) (sym quiet.2) (more next found once)))
          s.boot s.place keeps quiet.3,
    )

pub first-same : (c d : Content) (cpu : Cpu) (family : ℕ) (events : List EventView) (host : Host)
    → target_of d (table_of_found host.found) cpu family ≡ target_of c (table_of_found host.found) cpu family
    → AsksOnce c d cpu family host events → HaveSameTargets c d cpu host events
first-same c d cpu family [] host same once = tt
first-same c d cpu family (EventView.Command command payload ∷ events) host same once =
    first-event c d cpu family host (EventView.Command command payload) events same
    (command-keeps c cpu host (command_in command) payload)
    (λ next found later. first-same c d cpu family events next
    (subst (λ f. target_of d (table_of_found f) cpu family ≡ target_of c (table_of_found f) cpu family) (sym found) same)
    later) once
first-same c d cpu family (EventView.Uf2 block ∷ events) host same once =
    first-event c d cpu family host (EventView.Uf2 block) events same (block-keeps c cpu host (uf2_of block))
    (λ next found later. first-same c d cpu family events next
    (subst (λ f. target_of d (table_of_found f) cpu family ≡ target_of c (table_of_found f) cpu family) (sym found) same)
    later) once
first-same c d cpu family (EventView.End ∷ events) host same once = first-same c d cpu family events host same once
first-same c d cpu family (EventView.Cut after within pattern ∷ events) host same once =
    first-same c d cpu family events host same once
first-same c d cpu family (EventView.PowerOn ∷ events) host same once = first-same c d cpu family events host same once
first-same c d cpu family (EventView.Reset kind ∷ events) host same once =
    first-same c d cpu family events host same once
first-same c d cpu family (EventView.Buy ∷ events) host same once = first-same c d cpu family events host same once
