-- The outcome of a move tells whether power was lost in it.
use Rattle.std.proofs.Common.{◌≡◌, ◌≢◌, ◌↔◌, ℕ, List, [], ◌∷◌, ◌++◌, Option, Some, None, Result, Ok, Err, sym, ◌∙◌, subst, inl, inr, length}
use Rattle.std.specs.Prelude.{◌==◌, ⊤, nat_eq, not}
use Rattle.std.specs.Set.{is_member}
use Rattle.pico_board.specs.declared.boot.Cpu.{Cpu}
use Rattle.pico_board.specs.declared.boot.BootKind.{BootKind}
use Rattle.pico_board.specs.Content.{Content}
use Rattle.pico_board.specs.Steps.{CutOf, after_all}
use Rattle.pico_board.specs.declared.Step.{Step}
use Rattle.part_table.specs.declared.Table.{Table}
use Rattle.part_table.specs.declared.Target.{Target}
use Rattle.part_table.specs.declared.Right.TheVariants.{BootWrite}
use Rattle.part_table.specs.Rights.{allowed_by}
use Rattle.image_def.specs.declared.started.Started.{Started}
use Rattle.uf2_place.specs.declared.block.Uf2.{Uf2}
use Rattle.uf2_place.specs.declared.block.Uf2Fault.{Uf2Fault}
use Rattle.uf2_place.specs.declared.answer.PlaceFault.TheVariants.{NoTarget, NotPermitted, Outside, PowerLost as Lost}
use Rattle.uf2_place.specs.declared.answer.Ruling.{Ruling}
use Rattle.uf2_place.specs.declared.answer.Ruling.TheVariants.{Answered, Begins, Continues}
use Rattle.uf2_place.specs.Blocks.{uf2_of}
use Rattle.uf2_place.specs.Placement.{grown, is_whole_download, numbers_of, sector_in}
use Rattle.uf2_place.specs.Rulings.{aimed, begun, is_skipped, is_page_within}
use Rattle.picoboot_cmd.specs.declared.cmd.Cmd.{Cmd}
use Rattle.picoboot_cmd.specs.declared.cmd.CmdFault.{CmdFault}
use Rattle.picoboot_cmd.specs.Commands.{command_in}
use Rattle.info_reply.specs.declared.kinds.TheConstants.{INFO}
use Rattle.ram_start.specs.Serving.{is_ram_command}
use Rattle.boot_rules.specs.Choosing.{decision_in}
use Rattle.boot_rules.specs.Targets.{target_of}
use Rattle.boot_script.specs.Events.{EventView}
use Rattle.text_lines.specs.Outcomes.{with_boot}
use Rattle.text_lines.specs.declared.outcome.EventOutcome.{EventOutcome}
use Rattle.text_lines.specs.declared.outcome.EventOutcome.TheVariants as event_outcomes
use Rattle.boot_rules.specs.declared.decision.Decision.{Decision}
use Rattle.boot_machine.specs.Boots.{Effect}
use Rattle.boot_machine.specs.Machines.{Host, MachineView, StateView, Placing, Off, InBootsel, Running, FromFlash, FromRam}
use Rattle.boot_machine.specs.Moves.{IsDoneWhole, IsLost, Moves, armed_for, effect, effect_in}
use Rattle.boot_machine.specs.Serving.{ServedEvent, block_served, blocks_of, command_served, followed_by, is_like, ram_outcome, ruled_on, ruling_on, serves, serves_ram, served_event, table_of_found, taken_in, uf2_served}
use Rattle.boot_machine.proofs.RamRunLemmas.{either}

-- an outcome other than that of lost power
abbrev IsOther : EventOutcome → Type 0
IsOther event_outcomes.PowerLost = ⊥
IsOther _ = ⊤

other-apart : (outcome : EventOutcome) → IsOther outcome → outcome ≡ event_outcomes.PowerLost → ⊥
other-apart outcome is same = subst IsOther same is

other-boot : (outcome : EventOutcome) (d : Decision) → IsOther outcome → IsOther (with_boot outcome d)
other-boot event_outcomes.Off d is = tt
other-boot event_outcomes.Ignored d is = tt
other-boot event_outcomes.Ended d is = tt
other-boot event_outcomes.CutArmed d is = tt
other-boot event_outcomes.PowerLost d is = is
other-boot (event_outcomes.Booted former) d is = tt
other-boot event_outcomes.Bought d is = tt
other-boot event_outcomes.NothingToBuy d is = tt
other-boot event_outcomes.BadMagic d is = tt
other-boot (event_outcomes.Command c) d is = tt
other-boot (event_outcomes.Block b) d is = tt

-- what is served has another outcome
abbrev Tells : ServedEvent → Type 0
Tells s = IsOther s.outcome

-- no block is refused before any step for want of power
abbrev KeepsPower : Ruling → Type 0
KeepsPower (Answered (Err Lost)) = ⊥
KeepsPower (Answered (Err NoTarget)) = ⊤
KeepsPower (Answered (Err Outside)) = ⊤
KeepsPower (Answered (Err NotPermitted)) = ⊤
KeepsPower (Answered (Ok accepted)) = ⊤
KeepsPower (Begins t) = ⊤
KeepsPower (Continues t) = ⊤

module _ (t : Option Table) (b : Uf2) where
  aimed-keeps : (target : Target) (go : Ruling) → KeepsPower go → KeepsPower (aimed t b target go)
  aimed-keeps target go keeps =
      either KeepsPower (not (is_page_within target.window.len b)) _ _ tt
      (either KeepsPower (not (allowed_by t (sector_in target.window b) BootWrite)) _ _ tt keeps)

  begun-keeps : (given : Option Target) → KeepsPower (begun t b given)
  begun-keeps None = tt
  begun-keeps (Some target) = aimed-keeps target (Begins target) tt

  ruled-keeps : (given : Option Target) (placing : Option Placing) → KeepsPower (ruled_on t given placing b)
  ruled-keeps given None = begun-keeps given
  ruled-keeps given (Some placing) =
      either KeepsPower (is_like placing.blocks b) _ _
      (either KeepsPower (is_member nat_eq (numbers_of placing.blocks) b.number) _ _ tt
      (aimed-keeps placing.target (Continues placing.target) tt))
      (begun-keeps given)

ruling-keeps : (n : ℕ) (t : Option Table) (given : Option Target) (placing : Option Placing) (b : Uf2)
    → KeepsPower (ruling_on n t given placing b)
ruling-keeps n t given placing b = either KeepsPower (is_skipped n b) _ _ tt (ruled-keeps t b given placing)

taken-tells : (host : Host) (t : Target) (blocks : List Uf2) (b : Uf2) (steps : List Step)
    → Tells (taken_in host t blocks b steps)
taken-tells host t blocks b steps = either Tells (is_whole_download blocks) _ _ tt tt

block-tells : (host : Host) (b : Uf2) (r : Ruling) → KeepsPower r → Tells (block_served host b r)
block-tells host b (Answered (Ok accepted)) keeps = tt
block-tells host b (Answered (Err NoTarget)) keeps = tt
block-tells host b (Answered (Err Outside)) keeps = tt
block-tells host b (Answered (Err NotPermitted)) keeps = tt
block-tells host b (Answered (Err Lost)) keeps = absurd keeps
block-tells host b (Begins t) keeps = taken-tells host t (b ∷ []) b (grown t [] (b ∷ []))
block-tells host b (Continues t) keeps =
    taken-tells host t (blocks_of host.placing ++ b ∷ []) b
    (grown t (blocks_of host.placing) (blocks_of host.placing ++ b ∷ []))

ram-tells : (cmd : Cmd) (status : ℕ) (reply : List ℕ) (start : Option Started)
    → IsOther (ram_outcome cmd status reply start)
ram-tells cmd status reply None = tt
ram-tells cmd status reply (Some image) = tt

module _ (c : Content) (cpu : Cpu) (host : Host) where
  uf2-tells : (r : Result Uf2 Uf2Fault) → Tells (uf2_served c cpu host r)
  uf2-tells (Ok b) =
      let given = target_of c (table_of_found host.found) cpu b.family in
      block-tells host b (ruling_on (length c.flash) (table_of_found host.found) given host.placing b)
      (ruling-keeps (length c.flash) (table_of_found host.found) given host.placing b)
  uf2-tells (Err fault) = tt

  serves-tells : (cmd : Cmd) (payload : List ℕ) → Tells (serves c cpu host cmd payload)
  serves-tells cmd payload =
      either Tells (cmd.id == INFO) _ _ tt
      (either Tells (is_ram_command cmd) (serves_ram c cpu host cmd payload) _ (ram-tells cmd _ _ _) tt)

  command-tells : (r : Result Cmd CmdFault) (payload : List ℕ) → Tells (command_served c cpu host r payload)
  command-tells (Ok cmd) payload = serves-tells cmd payload
  command-tells (Err fault) payload = tt

  followed-tells : (s : ServedEvent) (boot : Option BootKind) → Tells s → IsOther (followed_by c cpu s boot).outcome
  followed-tells s None tells = tells
  followed-tells s (Some kind) tells =
      other-boot s.outcome (decision_in (after_all c s.steps) cpu kind) tells

abbrev Says : Effect → Type 0
Says e = IsOther e.outcome

place-says : (c : Content) (cpu : Cpu) (place : StateView) (event : EventView) → Says (effect_in c cpu place event)
place-says c cpu Off EventView.PowerOn = tt
place-says c cpu Off EventView.End = tt
place-says c cpu Off EventView.Buy = tt
place-says c cpu Off (EventView.Command command payload) = tt
place-says c cpu Off (EventView.Uf2 block) = tt
place-says c cpu Off (EventView.Cut left within pattern) = tt
place-says c cpu Off (EventView.Reset kind) = tt
place-says c cpu (InBootsel host) (EventView.Command command payload) =
    let s = served_event c cpu host (EventView.Command command payload) in
    followed-tells c cpu host s s.boot (command-tells c cpu host (command_in command) payload)
place-says c cpu (InBootsel host) (EventView.Uf2 block) =
    let s = served_event c cpu host (EventView.Uf2 block) in
    followed-tells c cpu host s s.boot (uf2-tells c cpu host (uf2_of block))
place-says c cpu (InBootsel host) (EventView.Reset kind) = tt
place-says c cpu (InBootsel host) EventView.End = tt
place-says c cpu (InBootsel host) EventView.PowerOn = tt
place-says c cpu (InBootsel host) EventView.Buy = tt
place-says c cpu (InBootsel host) (EventView.Cut left within pattern) = tt
place-says c cpu (Running program) (EventView.Reset kind) = tt
place-says c cpu (Running (FromFlash choice)) EventView.Buy = either Says choice.image.trial _ _ tt tt
place-says c cpu (Running (FromRam image)) EventView.Buy = tt
place-says c cpu (Running program) EventView.PowerOn = tt
place-says c cpu (Running program) EventView.End = tt
place-says c cpu (Running program) (EventView.Command command payload) = tt
place-says c cpu (Running program) (EventView.Uf2 block) = tt
place-says c cpu (Running program) (EventView.Cut left within pattern) = tt

effect-says : (m : MachineView) (event : EventView) → Says (effect m event)
effect-says m (EventView.Cut left within pattern) = tt
effect-says m EventView.End = tt
effect-says m (EventView.Command command payload) =
    place-says m.content m.cpu m.place (EventView.Command command payload)
effect-says m (EventView.Uf2 block) = place-says m.content m.cpu m.place (EventView.Uf2 block)
effect-says m EventView.PowerOn = place-says m.content m.cpu m.place EventView.PowerOn
effect-says m (EventView.Reset kind) = place-says m.content m.cpu m.place (EventView.Reset kind)
effect-says m EventView.Buy = place-says m.content m.cpu m.place EventView.Buy

-- an event that is done has another outcome than lost power
pub not-lost : (m : MachineView) (event : EventView) → (effect m event).outcome ≢ event_outcomes.PowerLost
not-lost m event same = other-apart (effect m event).outcome (effect-says m event) same

pub lost-told : (m n : MachineView) (event : EventView) (outcome : EventOutcome) → Moves m event n outcome
    → (outcome ≡ event_outcomes.PowerLost) ↔ IsLost m (armed_for m.armed event) (effect m event) n outcome
lost-told m n event outcome (inl done) =
    (λ same. absurd (other-apart (effect m event).outcome (effect-says m event) (sym done.told ∙ same)), λ lost. lost.told)
lost-told m n event outcome (inr lost) = (λ same. lost, λ l. l.told)

pub no-step : (m n : MachineView) (event : EventView) (outcome : EventOutcome) → Moves m event n outcome
    → (effect m event).steps ≡ []
    → IsDoneWhole m (armed_for m.armed event) (effect m event) n outcome
no-step m n event outcome (inl done) none = done
no-step m n event outcome (inr lost) none = absurd (subst (λ steps. CutOf m.content steps n.content) none lost.content)
