-- A trial image that runs was chosen on the content as it is: its start wrote nothing, and nothing is written while it
-- runs.
use Rattle.std.proofs.Common.{◌≡◌, ℕ, true, List, [], ◌∷◌, ◌++◌, length, Option, Some, None, Result, Ok, Err, refl, sym, ap, subst, inl, inr, true≢false}
use Rattle.std.specs.Prelude.{◌==◌, ⊤}
use Rattle.pico_board.specs.declared.Step.{Step}
use Rattle.pico_board.specs.declared.boot.BootKind.{BootKind}
use Rattle.pico_board.specs.declared.boot.BootKind.TheVariants.{Normal}
use Rattle.pico_board.specs.declared.boot.Cpu.{Cpu}
use Rattle.pico_board.specs.Content.{Content}
use Rattle.pico_board.specs.Steps.{after_all}
use Rattle.pico_board.proofs.StepLemmas.{after_all-append}
use Rattle.part_table.specs.declared.Target.{Target}
use Rattle.image_def.specs.declared.started.Started.{Started}
use Rattle.slot_choice.specs.declared.choice.Choice.{Choice}
use Rattle.uf2_place.specs.declared.block.Uf2.{Uf2}
use Rattle.uf2_place.specs.declared.block.Uf2Fault.{Uf2Fault}
use Rattle.uf2_place.specs.declared.answer.Ruling.{Ruling}
use Rattle.uf2_place.specs.declared.answer.Ruling.TheVariants.{Answered, Begins, Continues}
use Rattle.uf2_place.specs.Blocks.{uf2_of}
use Rattle.uf2_place.specs.Placement.{grown, is_whole_download}
use Rattle.picoboot_cmd.specs.declared.cmd.Cmd.{Cmd}
use Rattle.picoboot_cmd.specs.declared.cmd.CmdFault.{CmdFault}
use Rattle.picoboot_cmd.specs.Commands.{command_in}
use Rattle.info_reply.specs.declared.kinds.TheConstants.{INFO}
use Rattle.ram_start.specs.Serving.{is_ram_command}
use Rattle.boot_rules.specs.Choosing.{decision_in}
use Rattle.boot_rules.specs.Chosen.{Chosen}
use Rattle.boot_rules.specs.Targets.{target_of}
use Rattle.boot_rules.specs.declared.decision.Decision.{Decision}
use Rattle.boot_rules.specs.declared.decision.Decision.TheVariants.{Start, Bootsel}
use Rattle.boot_rules.proofs.DecisionLemmas.{chosen-exactly}
use Rattle.boot_script.specs.Events.{EventView}
use Rattle.boot_machine.specs.Boots.{Effect, booted, decided_place, decided_steps}
use Rattle.text_lines.specs.declared.outcome.EventOutcome.{EventOutcome}
use Rattle.boot_machine.specs.Machines.{Host, MachineView, StateView, Off, InBootsel, Running, FromFlash, FromRam}
use Rattle.boot_machine.specs.Moves.{Moves, Plays, effect, effect_in}
use Rattle.boot_machine.specs.Runs.{IsFresh}
use Rattle.boot_machine.specs.Serving.{ServedEvent, block_served, blocks_of, command_served, followed_by, ram_place, ruling_on, serves, serves_ram, served_event, table_of_found, taken_in, uf2_served}
use Rattle.boot_machine.proofs.BootLemmas.{trial-steps}
use Rattle.boot_machine.proofs.RamRunLemmas.{either}

-- a boot of some kind on the content chooses this
abbrev pub WasChosen : Content → Cpu → Choice → Type 0
WasChosen c cpu choice = (kind : BootKind) × Chosen c cpu kind (Start choice)

-- where a trial image runs, a boot on the content chooses it
abbrev pub HasChosenTrial : Content → Cpu → StateView → Type 0
HasChosenTrial c cpu Off = ⊤
HasChosenTrial c cpu (InBootsel host) = ⊤
HasChosenTrial c cpu (Running (FromFlash choice)) = choice.image.trial ≡ true → WasChosen c cpu choice
HasChosenTrial c cpu (Running (FromRam image)) = ⊤

-- no image from flash runs
abbrev RunsNone : StateView → Type 0
RunsNone Off = ⊤
RunsNone (InBootsel host) = ⊤
RunsNone (Running (FromFlash choice)) = ⊥
RunsNone (Running (FromRam image)) = ⊤

none-chosen : (c : Content) (cpu : Cpu) (place : StateView) → RunsNone place → HasChosenTrial c cpu place
none-chosen c cpu Off none = tt
none-chosen c cpu (InBootsel host) none = tt
none-chosen c cpu (Running (FromFlash choice)) none = absurd none
none-chosen c cpu (Running (FromRam image)) none = tt

abbrev After : Content → Cpu → Effect → Type 0
After c cpu e = HasChosenTrial (after_all c e.steps) cpu e.place

-- a boot
decided-chosen : (c : Content) (cpu : Cpu) (kind : BootKind) (d : Decision) → decision_in c cpu kind ≡ d
    → HasChosenTrial (after_all c (decided_steps c cpu d)) cpu (decided_place c d)
decided-chosen c cpu kind (Start choice) is = λ trial. (
  kind,
  subst (λ (x : Content). Chosen x cpu kind (Start choice))
      (sym (ap (after_all c) (trial-steps c cpu choice trial)))
      ((chosen-exactly c cpu kind (Start choice)).1 (sym is)),
)
decided-chosen c cpu kind (Bootsel fall) is = tt

booted-chosen : (c : Content) (cpu : Cpu) (kind : BootKind) (before : Option EventOutcome) → After c cpu (booted c cpu kind before)
booted-chosen c cpu kind before = decided-chosen c cpu kind (decision_in c cpu kind) refl

-- what is served runs no image from flash
abbrev ServesNone : ServedEvent → Type 0
ServesNone s = RunsNone s.place

taken-none : (host : Host) (t : Target) (blocks : List Uf2) (b : Uf2) (steps : List Step)
    → ServesNone (taken_in host t blocks b steps)
taken-none host t blocks b steps = either ServesNone (is_whole_download blocks) _ _ tt tt

block-none : (host : Host) (b : Uf2) (r : Ruling) → ServesNone (block_served host b r)
block-none host b (Answered answer) = tt
block-none host b (Begins t) = taken-none host t (b ∷ []) b (grown t [] (b ∷ []))
block-none host b (Continues t) =
    taken-none host t (blocks_of host.placing ++ b ∷ []) b
    (grown t (blocks_of host.placing) (blocks_of host.placing ++ b ∷ []))

ram-none : (host : Host) (start : Option Started) (ram : List ℕ) → RunsNone (ram_place host start ram)
ram-none host None ram = tt
ram-none host (Some image) ram = tt

module _ (c : Content) (cpu : Cpu) (host : Host) where
  uf2-none : (r : Result Uf2 Uf2Fault) → ServesNone (uf2_served c cpu host r)
  uf2-none (Ok b) =
      block-none host b (ruling_on (length c.flash) (table_of_found host.found)
      (target_of c (table_of_found host.found) cpu b.family) host.placing b)
  uf2-none (Err fault) = tt

  serves-none : (cmd : Cmd) (payload : List ℕ) → ServesNone (serves c cpu host cmd payload)
  serves-none cmd payload =
      either ServesNone (cmd.id == INFO) _ _ tt
      (either ServesNone (is_ram_command cmd) (serves_ram c cpu host cmd payload) _ (ram-none host _ _) tt)

  command-none : (r : Result Cmd CmdFault) (payload : List ℕ) → ServesNone (command_served c cpu host r payload)
  command-none (Ok cmd) payload = serves-none cmd payload
  command-none (Err fault) payload = tt

  followed-chosen : (s : ServedEvent) (boot : Option BootKind) → ServesNone s → After c cpu (followed_by c cpu s boot)
  followed-chosen s None none = none-chosen (after_all c s.steps) cpu s.place none
  followed-chosen s (Some kind) none =
      let mid = after_all c s.steps in
      let d = decision_in mid cpu kind in
      subst (λ (x : Content). HasChosenTrial x cpu (decided_place mid d))
      (sym (after_all-append c s.steps (decided_steps mid cpu d))) (decided-chosen mid cpu kind d refl)

-- what a buy leaves is no trial
buy-chosen : (c : Content) (cpu : Cpu) (choice : Choice) → HasChosenTrial c cpu (Running (FromFlash choice))
    → After c cpu (effect_in c cpu (Running (FromFlash choice)) EventView.Buy)
buy-chosen c cpu choice was =
    either (After c cpu) choice.image.trial _ _ (λ trial. absurd (true≢false (sym trial))) was

place-chosen : (c : Content) (cpu : Cpu) (place : StateView) (event : EventView) → HasChosenTrial c cpu place
    → After c cpu (effect_in c cpu place event)
place-chosen c cpu Off EventView.PowerOn was = booted-chosen c cpu Normal None
place-chosen c cpu Off EventView.End was = tt
place-chosen c cpu Off (EventView.Command command payload) was = tt
place-chosen c cpu Off (EventView.Uf2 block) was = tt
place-chosen c cpu Off (EventView.Cut left within pattern) was = tt
place-chosen c cpu Off (EventView.Reset kind) was = tt
place-chosen c cpu Off EventView.Buy was = tt
place-chosen c cpu (InBootsel host) (EventView.Command command payload) was =
    let s = served_event c cpu host (EventView.Command command payload) in
    followed-chosen c cpu host s s.boot (command-none c cpu host (command_in command) payload)
place-chosen c cpu (InBootsel host) (EventView.Uf2 block) was =
    let s = served_event c cpu host (EventView.Uf2 block) in
    followed-chosen c cpu host s s.boot (uf2-none c cpu host (uf2_of block))
place-chosen c cpu (InBootsel host) (EventView.Reset kind) was = booted-chosen c cpu kind None
place-chosen c cpu (InBootsel host) EventView.End was = tt
place-chosen c cpu (InBootsel host) EventView.PowerOn was = tt
place-chosen c cpu (InBootsel host) EventView.Buy was = tt
place-chosen c cpu (InBootsel host) (EventView.Cut left within pattern) was = tt
place-chosen c cpu (Running program) (EventView.Reset kind) was = booted-chosen c cpu kind None
place-chosen c cpu (Running (FromFlash choice)) EventView.Buy was = buy-chosen c cpu choice was
place-chosen c cpu (Running (FromRam image)) EventView.Buy was = tt
place-chosen c cpu (Running program) EventView.PowerOn was = was
place-chosen c cpu (Running program) EventView.End was = was
place-chosen c cpu (Running program) (EventView.Command command payload) was = was
place-chosen c cpu (Running program) (EventView.Uf2 block) was = was
place-chosen c cpu (Running program) (EventView.Cut left within pattern) was = was

effect-chosen : (m : MachineView) (event : EventView) → HasChosenTrial m.content m.cpu m.place
    → After m.content m.cpu (effect m event)
effect-chosen m (EventView.Cut left within pattern) was = was
effect-chosen m EventView.End was = was
effect-chosen m (EventView.Command command payload) was =
    place-chosen m.content m.cpu m.place (EventView.Command command payload) was
effect-chosen m (EventView.Uf2 block) was = place-chosen m.content m.cpu m.place (EventView.Uf2 block) was
effect-chosen m EventView.PowerOn was = place-chosen m.content m.cpu m.place EventView.PowerOn was
effect-chosen m (EventView.Reset kind) was = place-chosen m.content m.cpu m.place (EventView.Reset kind) was
effect-chosen m EventView.Buy was = place-chosen m.content m.cpu m.place EventView.Buy was

-- an event, and a run
move-chosen : (m n : MachineView) (event : EventView) (outcome : EventOutcome) → Moves m event n outcome
    → HasChosenTrial m.content m.cpu m.place → HasChosenTrial n.content n.cpu n.place
move-chosen m n event outcome (inl done) was =
    subst (λ (c : Content). HasChosenTrial c n.cpu n.place) (sym done.content)
    (subst (λ (cpu : Cpu). HasChosenTrial (after_all m.content (effect m event).steps) cpu n.place) (sym done.cpu)
    (subst (HasChosenTrial (after_all m.content (effect m event).steps) m.cpu) (sym done.place)
    (effect-chosen m event was)))
move-chosen m n event outcome (inr lost) was = subst (HasChosenTrial n.content n.cpu) (sym lost.place) tt

plays-chosen : (m n : MachineView) (events : List EventView) (outcomes : List EventOutcome) → Plays m events n outcomes
    → HasChosenTrial m.content m.cpu m.place → HasChosenTrial n.content n.cpu n.place
plays-chosen m n [] outcomes plays was =
    subst (λ (x : MachineView). HasChosenTrial x.content x.cpu x.place) (sym plays.0) was
plays-chosen m n (event ∷ events) outcomes (mid, outcome, others, moves, rest, all) was =
    plays-chosen mid n events others rest (move-chosen m mid event outcome moves was)

fresh-chosen : (c : Content) (cpu : Cpu) (place : StateView) → IsFresh place → HasChosenTrial c cpu place
fresh-chosen c cpu Off fresh = tt
fresh-chosen c cpu (InBootsel host) fresh = tt
fresh-chosen c cpu (Running program) fresh = absurd fresh

pub running-trial : (m n : MachineView) (events : List EventView) (outcomes : List EventOutcome) (choice : Choice)
    → IsFresh m.place → Plays m events n outcomes → n.place ≡ Running (FromFlash choice) → choice.image.trial ≡ true
    → WasChosen n.content n.cpu choice
running-trial m n events outcomes choice fresh plays at trial =
    subst (HasChosenTrial n.content n.cpu) at
    (plays-chosen m n events outcomes plays (fresh-chosen m.content m.cpu m.place fresh)) trial
