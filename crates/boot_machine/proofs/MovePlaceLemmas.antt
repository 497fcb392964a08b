-- Where a move leads: power is lost in a step alone, and without power nothing is done.
use Rattle.std.proofs.Common.{◌≡◌, ◌≢◌, ℕ, Bool, true, List, [], ◌∷◌, ◌++◌, Option, Some, None, Result, Ok, Err, refl, sym, ◌∙◌, subst, inl, inr, length}
use Rattle.std.specs.Prelude.{◌==◌, ⊤}
use Rattle.pico_board.specs.declared.boot.Cpu.{Cpu}
use Rattle.pico_board.specs.declared.boot.BootKind.{BootKind}
use Rattle.pico_board.specs.Content.{Content}
use Rattle.pico_board.specs.Cuts.{Cut}
use Rattle.pico_board.specs.Steps.{after_all}
use Rattle.pico_board.specs.declared.Step.{Step}
use Rattle.part_table.specs.declared.Target.{Target}
use Rattle.image_def.specs.declared.started.Started.{Started}
use Rattle.uf2_place.specs.declared.block.Uf2.{Uf2}
use Rattle.uf2_place.specs.declared.block.Uf2Fault.{Uf2Fault}
use Rattle.uf2_place.specs.declared.answer.Ruling.{Ruling}
use Rattle.uf2_place.specs.declared.answer.Ruling.TheVariants.{Answered, Begins, Continues}
use Rattle.uf2_place.specs.Blocks.{uf2_of}
use Rattle.uf2_place.specs.Placement.{grown, is_whole_download}
use Rattle.picoboot_cmd.specs.declared.cmd.Cmd.{Cmd}
use Rattle.picoboot_cmd.specs.declared.cmd.CmdFault.{CmdFault}
use Rattle.picoboot_cmd.specs.Commands.{command_in}
use Rattle.info_reply.specs.declared.kinds.TheConstants.{INFO}
use Rattle.ram_start.specs.Serving.{is_ram_command}
use Rattle.boot_rules.specs.Choosing.{decision_in}
use Rattle.boot_rules.specs.Targets.{target_of}
use Rattle.boot_rules.specs.declared.decision.Decision.{Decision}
use Rattle.boot_rules.specs.declared.decision.Decision.TheVariants.{Start, Bootsel}
use Rattle.boot_script.specs.Events.{EventView}
use Rattle.boot_machine.specs.Boots.{Effect, decided_place}
use Rattle.boot_machine.specs.Machines.{Host, MachineView, StateView, Off, InBootsel, Running, FromFlash, FromRam}
use Rattle.text_lines.specs.declared.outcome.EventOutcome.{EventOutcome}
use Rattle.text_lines.specs.declared.outcome.EventOutcome.TheVariants as event_outcomes
use Rattle.boot_machine.specs.Moves.{Decides, IsLost, Moves, MovesBy, armed_for, effect, effect_in, stays_with}
use Rattle.boot_machine.specs.Runs.{machine_with_cut}
use Rattle.boot_machine.specs.Serving.{ServedEvent, block_served, blocks_of, command_served, followed_by, ram_place, ruling_on, serves, serves_ram, served_event, table_of_found, taken_in, uf2_served}
use Rattle.boot_machine.proofs.AnsweredTargetLemmas.{still-moves}
use Rattle.boot_machine.proofs.MoveLemmas.{same-machine}
use Rattle.boot_machine.proofs.RamRunLemmas.{either}

-- a place that has power
abbrev IsOn : StateView → Type 0
IsOn Off = ⊥
IsOn (InBootsel host) = ⊤
IsOn (Running program) = ⊤

abbrev Keeps : ServedEvent → Type 0
Keeps s = IsOn s.place

decided-on : (c : Content) (d : Decision) → IsOn (decided_place c d)
decided-on c (Start choice) = tt
decided-on c (Bootsel fall) = tt

taken-on : (host : Host) (t : Target) (blocks : List Uf2) (b : Uf2) (steps : List Step)
    → Keeps (taken_in host t blocks b steps)
taken-on host t blocks b steps = either Keeps (is_whole_download blocks) _ _ tt tt

block-on : (host : Host) (b : Uf2) (r : Ruling) → Keeps (block_served host b r)
block-on host b (Answered answer) = tt
block-on host b (Begins t) = taken-on host t (b ∷ []) b (grown t [] (b ∷ []))
block-on host b (Continues t) =
    taken-on host t (blocks_of host.placing ++ b ∷ []) b
    (grown t (blocks_of host.placing) (blocks_of host.placing ++ b ∷ []))

ram-on : (host : Host) (start : Option Started) (ram : List ℕ) → IsOn (ram_place host start ram)
ram-on host None ram = tt
ram-on host (Some image) ram = tt

module _ (c : Content) (cpu : Cpu) (host : Host) where
  uf2-on : (r : Result Uf2 Uf2Fault) → Keeps (uf2_served c cpu host r)
  uf2-on (Ok b) =
      block-on host b (ruling_on (length c.flash) (table_of_found host.found)
      (target_of c (table_of_found host.found) cpu b.family) host.placing b)
  uf2-on (Err fault) = tt

  serves-on : (cmd : Cmd) (payload : List ℕ) → Keeps (serves c cpu host cmd payload)
  serves-on cmd payload =
      either Keeps (cmd.id == INFO) _ _ tt
      (either Keeps (is_ram_command cmd) (serves_ram c cpu host cmd payload) _ (ram-on host _ _) tt)

  command-on : (r : Result Cmd CmdFault) (payload : List ℕ) → Keeps (command_served c cpu host r payload)
  command-on (Ok cmd) payload = serves-on cmd payload
  command-on (Err fault) payload = tt

  followed-on : (s : ServedEvent) (boot : Option BootKind) → Keeps s → IsOn (followed_by c cpu s boot).place
  followed-on s None keeps = keeps
  followed-on s (Some kind) keeps =
      decided-on (after_all c s.steps) (decision_in (after_all c s.steps) cpu kind)

abbrev Holds : Effect → Type 0
Holds e = IsOn e.place

place-on : (c : Content) (cpu : Cpu) (place : StateView) (event : EventView) → IsOn place
    → Holds (effect_in c cpu place event)
place-on c cpu Off event on = absurd on
place-on c cpu (InBootsel host) (EventView.Command command payload) on =
    let s = served_event c cpu host (EventView.Command command payload) in
    followed-on c cpu host s s.boot (command-on c cpu host (command_in command) payload)
place-on c cpu (InBootsel host) (EventView.Uf2 block) on =
    let s = served_event c cpu host (EventView.Uf2 block) in
    followed-on c cpu host s s.boot (uf2-on c cpu host (uf2_of block))
place-on c cpu (InBootsel host) (EventView.Reset kind) on = decided-on c (decision_in c cpu kind)
place-on c cpu (InBootsel host) EventView.End on = tt
place-on c cpu (InBootsel host) EventView.PowerOn on = tt
place-on c cpu (InBootsel host) EventView.Buy on = tt
place-on c cpu (InBootsel host) (EventView.Cut left within pattern) on = tt
place-on c cpu (Running program) (EventView.Reset kind) on = decided-on c (decision_in c cpu kind)
place-on c cpu (Running (FromFlash choice)) EventView.Buy on = either Holds choice.image.trial _ _ tt tt
place-on c cpu (Running (FromRam image)) EventView.Buy on = tt
place-on c cpu (Running program) EventView.PowerOn on = tt
place-on c cpu (Running program) EventView.End on = tt
place-on c cpu (Running program) (EventView.Command command payload) on = tt
place-on c cpu (Running program) (EventView.Uf2 block) on = tt
place-on c cpu (Running program) (EventView.Cut left within pattern) on = tt

effect-on : (m : MachineView) (event : EventView) → IsOn m.place → Holds (effect m event)
effect-on m (EventView.Cut left within pattern) on = on
effect-on m EventView.End on = on
effect-on m (EventView.Command command payload) on =
    place-on m.content m.cpu m.place (EventView.Command command payload) on
effect-on m (EventView.Uf2 block) on = place-on m.content m.cpu m.place (EventView.Uf2 block) on
effect-on m EventView.PowerOn on = place-on m.content m.cpu m.place EventView.PowerOn on
effect-on m (EventView.Reset kind) on = place-on m.content m.cpu m.place (EventView.Reset kind) on
effect-on m EventView.Buy on = place-on m.content m.cpu m.place EventView.Buy on

is-on : (place : StateView) → place ≢ Off → IsOn place
is-on Off on = absurd (on refl)
is-on (InBootsel host) on = tt
is-on (Running program) on = tt

pub off-lost : (m n : MachineView) (event : EventView) (outcome : EventOutcome) → Moves m event n outcome → m.place ≢ Off
    → n.place ≡ Off → IsLost m (armed_for m.armed event) (effect m event) n outcome
off-lost m n event outcome (inl done) on off =
    absurd (subst IsOn (sym done.place ∙ off) (effect-on m event (is-on m.place on)))
off-lost m n event outcome (inr lost) on off = lost

-- without power
module _ (m n : MachineView) (outcome : EventOutcome) (at : m.place ≡ Off) where
  pub rests : (event : EventView) → armed_for m.armed event ≡ m.armed
      → effect_in m.content m.cpu Off event ≡ stays_with Off event_outcomes.Off
      → MovesBy m (armed_for m.armed event) (effect_in m.content m.cpu m.place event) n outcome
      → (n ≡ m) × (outcome ≡ event_outcomes.Off)
  rests event armed is moves =
      still-moves m n Off event_outcomes.Off outcome at
      (subst (λ (e : Effect). MovesBy m m.armed e n outcome) is
      (subst (λ (p : StateView). MovesBy m m.armed (effect_in m.content m.cpu p event) n outcome) at
      (subst (λ a. MovesBy m a (effect_in m.content m.cpu m.place event) n outcome) armed moves)))

  pub off-stays : (event : EventView) → event ≢ EventView.PowerOn
      → ((left : ℕ) (within : Bool) (pattern : List ℕ) → event ≢ EventView.Cut left within pattern)
      → Moves m event n outcome → n ≡ m
  off-stays EventView.PowerOn power cut moves = absurd (power refl)
  off-stays (EventView.Cut left within pattern) power cut moves = absurd (cut left within pattern refl)
  off-stays EventView.End power cut moves = (still-moves m n m.place event_outcomes.Ended outcome refl moves).0
  off-stays (EventView.Command command payload) power cut moves =
      (rests (EventView.Command command payload) refl refl moves).0
  off-stays (EventView.Uf2 block) power cut moves = (rests (EventView.Uf2 block) refl refl moves).0
  off-stays (EventView.Reset kind) power cut moves = (rests (EventView.Reset kind) refl refl moves).0
  off-stays EventView.Buy power cut moves = (rests EventView.Buy refl refl moves).0

  pub off-outcome : (event : EventView) → event ≢ EventView.PowerOn → event ≢ EventView.End
      → ((left : ℕ) (within : Bool) (pattern : List ℕ) → event ≢ EventView.Cut left within pattern)
      → Moves m event n outcome → outcome ≡ event_outcomes.Off
  off-outcome EventView.PowerOn power end cut moves = absurd (power refl)
  off-outcome (EventView.Cut left within pattern) power end cut moves = absurd (cut left within pattern refl)
  off-outcome EventView.End power end cut moves = absurd (end refl)
  off-outcome (EventView.Command command payload) power end cut moves =
      (rests (EventView.Command command payload) refl refl moves).1
  off-outcome (EventView.Uf2 block) power end cut moves = (rests (EventView.Uf2 block) refl refl moves).1
  off-outcome (EventView.Reset kind) power end cut moves = (rests (EventView.Reset kind) refl refl moves).1
  off-outcome EventView.Buy power end cut moves = (rests EventView.Buy refl refl moves).1

pub cut-moves : (m n : MachineView) (left : ℕ) (within : Bool) (pattern : List ℕ) (outcome : EventOutcome)
    → Moves m (EventView.Cut left within pattern) n outcome
    → (n ≡ machine_with_cut m left within pattern) × (outcome ≡ event_outcomes.CutArmed)
cut-moves m n left within pattern outcome (inr lost) = absurd lost.content
cut-moves m n left within pattern outcome (inl done) = (
  same-machine n (machine_with_cut m left within pattern) done.content
      (armed (armed_for m.armed (EventView.Cut left within pattern)) n.armed m.content n.content done.armed_cut)
      done.cpu done.place,
  done.told,
)
  where
    armed : (a b : Option (Option Cut)) (c d : Content) → Decides a c [] true d b → b ≡ a
    armed None b c d is = is
    armed (Some cut) b c d is = is.next

pub end-moves : (m n : MachineView) (outcome : EventOutcome) → Moves m EventView.End n outcome → (n ≡ m) × (outcome ≡ event_outcomes.Ended)
end-moves m n outcome moves = still-moves m n m.place event_outcomes.Ended outcome refl moves
