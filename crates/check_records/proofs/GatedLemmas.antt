-- The first event that holds pages back is the first block of a gated download.
use Rattle.std.proofs.Common.{◌≡◌, ℕ, ◌+◌, ◌==◌, Bool, true, false, cond, List, [], ◌∷◌, ◌++◌, length, Option, Some, None, Result, Ok, Err, refl, sym, ap, ◌∙◌, subst}
use Rattle.std.specs.Prelude.{⊤, ◌&&◌, ◌||◌, if◌then◌else◌, is_some, map, nat_eq, not}
use Rattle.std.specs.Set.{is_member}
use Rattle.pico_board.specs.declared.Step.{Step}
use Rattle.pico_board.specs.declared.boot.BootKind.{BootKind}
use Rattle.pico_board.specs.declared.boot.BootKind.TheVariants.{Normal}
use Rattle.pico_board.specs.declared.boot.Cpu.{Cpu}
use Rattle.pico_board.specs.Content.{Content}
use Rattle.pico_board.specs.Cuts.{Cut, CutOutcome, cut_steps, nearer}
use Rattle.pico_board.specs.Steps.{after_all}
use Rattle.part_table.specs.declared.Table.{Table}
use Rattle.part_table.specs.declared.Target.{Target}
use Rattle.part_table.specs.declared.Right.TheVariants.{BootWrite}
use Rattle.part_table.specs.Rights.{allowed_by}
use Rattle.image_def.specs.declared.started.Started.{Started}
use Rattle.picoboot_cmd.specs.declared.cmd.Cmd.{Cmd}
use Rattle.picoboot_cmd.specs.declared.cmd.CmdFault.{CmdFault}
use Rattle.picoboot_cmd.specs.Commands.{command_in}
use Rattle.info_reply.specs.declared.kinds.TheConstants.{INFO}
use Rattle.ram_start.specs.Serving.{is_ram_command, ram_command}
use Rattle.trial_buy.specs.Buying.{buy_steps}
use Rattle.uf2_place.specs.declared.block.Uf2.{Uf2}
use Rattle.uf2_place.specs.declared.block.Uf2Fault.{Uf2Fault}
use Rattle.uf2_place.specs.declared.answer.Accepted.TheVariants as accepted
use Rattle.uf2_place.specs.declared.answer.PlaceFault.{PlaceFault}
use Rattle.uf2_place.specs.declared.answer.Ruling.{Ruling}
use Rattle.uf2_place.specs.declared.answer.Ruling.TheVariants.{Answered, Begins, Continues}
use Rattle.uf2_place.specs.Blocks.{uf2_of}
use Rattle.uf2_place.specs.Placement.{grown, is_whole_download, numbers_of, sector_in}
use Rattle.uf2_place.specs.Rulings.{aimed, begun, is_page_within, is_skipped}
use Rattle.text_lines.specs.declared.outcome.EventOutcome.TheVariants as events
use Rattle.slot_choice.specs.declared.choice.Choice.{Choice}
use Rattle.text_lines.specs.Outcomes.{accepted_outcome}
use Rattle.boot_rules.specs.declared.decision.Decision.{Decision}
use Rattle.boot_rules.specs.declared.decision.Decision.TheVariants as decisions
use Rattle.boot_rules.specs.Choosing.{decision_in}
use Rattle.boot_rules.specs.Targets.{target_of}
use Rattle.boot_script.specs.Events.{EventView}
use Rattle.boot_machine.specs.Boots.{Effect, decided_place}
use Rattle.boot_machine.specs.Machines.{Host, MachineView, Placing, StateView, FromFlash, FromRam, InBootsel, Off, Running}
use Rattle.boot_machine.specs.Moves.{armed_for, bought_choice, effect, stays_with}
use Rattle.boot_machine.specs.Serving.{ServedEvent, block_served, blocks_of, carried_on, command_served, done_boot, followed_by, is_like, ram_outcome, ram_place, ruled_on, ruling_on, served_event, serves_host, serves_info, serves_ram, table_of_found, taken_in, uf2_served, with_placing}
use Rattle.boot_machine.specs.Standing.{placing_at}
use Rattle.boot_machine.specs.Plays.{moved_machine, powerless, told_cut}
use Rattle.boot_sweep.specs.Moving.{Done, MoveView, Torn}
use Rattle.boot_tape.specs.CutMoves.{cut_moves, move_first}
use Rattle.boot_tape.specs.Traces.{came_of, note_of, own_moves, own_steps, served_in}
use Rattle.boot_tape.proofs.NoteLemmas.{own-whole}
use Rattle.boot_tape.proofs.TraceLemmas.{cut-steps}
use Rattle.check_records.specs.Caveats.{first_event, holds_back, is_holding, outcome_holds, script_caveats}
use Rattle.check_records.specs.GatedBlocks.{is_gated_block, is_gated_outcome, serves_gated}
use Rattle.check_records.proofs.HoldLemmas.{first-holds, later-holds}

-- a download that is current, if there is one, is not gated, and more blocks are to come
abbrev IsPlain : Option Placing → Type 0
IsPlain None = ⊤
IsPlain (Some placing) = (placing.target.gated ≡ false) × (is_whole_download placing.blocks ≡ false)

abbrev IsPlainAt : StateView → Type 0
IsPlainAt place = IsPlain (placing_at place)

-- all of these steps complete
abbrev all_done : List Step → List MoveView
all_done steps = map (λ (s : Step). Done s) steps

-- what is served holds pages back where it is of a gated download, and where it is of none, none is
-- current behind it
abbrev Tells : ServedEvent → Type 0
Tells s =
    (outcome_holds s.outcome (all_done s.steps) ≡ is_gated_outcome s.outcome s.place)
    × (is_gated_outcome s.outcome s.place ≡ false → IsPlainAt s.place)

either-tells : (t : Bool) (a b : ServedEvent) → Tells a → Tells b → Tells (cond t a b)
either-tells true a b first rest = first
either-tells false a b first rest = rest

-- a block that is taken
abbrev taken_by : Host → Target → List Uf2 → Uf2 → List Step → Bool → ServedEvent
taken_by host t blocks b steps whole =
    if whole then record {
      steps = steps;
      place = InBootsel (with_placing host None);
      outcome = accepted_outcome b.number (accepted.Done t);
      boot = done_boot b.family t;
    }
    else record {
      steps = steps;
      place = InBootsel (with_placing host (Some (record { target = t; blocks = blocks })));
      outcome = accepted_outcome b.number accepted.Taken;
      boot = None;
    }

taken-tells : (host : Host) (t : Target) (blocks : List Uf2) (b : Uf2) (steps : List Step)
    → (is_whole_download blocks ≡ false → holds_back (all_done steps) ≡ t.gated)
    → Tells (taken_in host t blocks b steps)
taken-tells host t blocks b steps holds = go (is_whole_download blocks) refl
  where
    go : (whole : Bool) → is_whole_download blocks ≡ whole → Tells (taken_by host t blocks b steps whole)
    go true is = (refl, λ e. tt)
    go false is = (holds is, λ plain. (plain, is))

-- one that goes on with a download
more-holds : (t : Target) (blocks : List Uf2) (b : Uf2) → is_like blocks b ≡ true → is_whole_download blocks ≡ false
    → is_whole_download (blocks ++ b ∷ []) ≡ false
    → holds_back (all_done (grown t blocks (blocks ++ b ∷ []))) ≡ false
more-holds t [] b like more still = cc
more-holds t (first ∷ former) b like more still = later-holds t first b former more still

module _ (host : Host) (b : Uf2) (plain : IsPlain host.placing) where
  abbrev Right : Ruling → Type 0
  Right r = Tells (block_served host b r)

  aimed-right : (table : Option Table) (t : Target) (go : Ruling) → Right go → Right (aimed table b t go)
  aimed-right table t go right =
      outer (not (is_page_within t.window.len b)) (not (allowed_by table (sector_in t.window b) BootWrite))
    where
      inner : (y : Bool) → Right (cond y (Answered (Err PlaceFault.NotPermitted)) go)
      inner true = (refl, λ e. plain)
      inner false = right

      outer : (x y : Bool)
          → Right (cond x (Answered (Err PlaceFault.Outside)) (cond y (Answered (Err PlaceFault.NotPermitted)) go))
      outer true y = (refl, λ e. plain)
      outer false y = inner y

  begun-right : (table : Option Table) (given : Option Target) → Right (begun table b given)
  begun-right table None = (refl, λ e. plain)
  begun-right table (Some t) =
      aimed-right table t (Begins t)
      (taken-tells host t (b ∷ []) b (grown t [] (b ∷ [])) (λ more. first-holds t b more))

  carried-right : (table : Option Table) (placing : Placing) → host.placing ≡ Some placing
      → is_like placing.blocks b ≡ true → Right (carried_on table placing b)
  carried-right table placing is like = go (is_member nat_eq (numbers_of placing.blocks) b.number)
    where
      kept : IsPlain (Some placing)
      kept = subst IsPlain is plain

      on : Right (Continues placing.target)
      on =
          subst (λ (p : Option Placing). Tells (taken_in host placing.target (blocks_of p ++ b ∷ []) b
          (grown placing.target (blocks_of p) (blocks_of p ++ b ∷ [])))) (sym is)
          (taken-tells host placing.target (placing.blocks ++ b ∷ []) b
          (grown placing.target placing.blocks (placing.blocks ++ b ∷ []))
          (λ still. more-holds placing.target placing.blocks b like kept.1 still ∙ sym kept.0))

      go : (x : Bool)
          → Right (cond x (Answered (Ok accepted.Again)) (aimed table b placing.target (Continues placing.target)))
      go true = (refl, λ e. plain)
      go false = aimed-right table placing.target (Continues placing.target) on

  ruled-right : (table : Option Table) (given : Option Target) (placing : Option Placing) → host.placing ≡ placing
      → Right (ruled_on table given placing b)
  ruled-right table given None is = begun-right table given
  ruled-right table given (Some placing) is = go (is_like placing.blocks b) refl
    where
      go : (like : Bool) → is_like placing.blocks b ≡ like
          → Right (cond like (carried_on table placing b) (begun table b given))
      go true like = carried-right table placing is like
      go false like = begun-right table given

  block-tells : (n : ℕ) (table : Option Table) (given : Option Target)
      → Right (ruling_on n table given host.placing b)
  block-tells n table given = go (is_skipped n b)
    where
      go : (skipped : Bool)
          → Right (cond skipped (Answered (Ok accepted.Skipped)) (ruled_on table given host.placing b))
      go true = (refl, λ e. plain)
      go false = ruled-right table given host.placing refl

-- what BOOTSEL serves
module _ (c : Content) (cpu : Cpu) (host : Host) (plain : IsPlain host.placing) where
  uf2-tells : (r : Result Uf2 Uf2Fault) → Tells (uf2_served c cpu host r)
  uf2-tells (Err fault) = (refl, λ e. plain)
  uf2-tells (Ok b) =
      block-tells host b plain (length c.flash) (table_of_found host.found)
      (target_of c (table_of_found host.found) cpu b.family)

  ram-by : (cmd : Cmd) (status : ℕ) (reply ram : List ℕ) (start : Option Started)
      → Tells (record {
        steps = [];
        place = ram_place host start ram;
        outcome = ram_outcome cmd status reply start;
        boot = None;
      })
  ram-by cmd status reply ram None = (refl, λ e. plain)
  ram-by cmd status reply ram (Some image) = (refl, λ e. tt)

  ram-tells : (cmd : Cmd) (payload : List ℕ) → Tells (serves_ram c cpu host cmd payload)
  ram-tells cmd payload =
      let r = ram_command c host.ram cpu (is_some host.placing) cmd payload in
      ram-by cmd r.status r.reply r.ram r.start

  command-tells : (r : Result Cmd CmdFault) (payload : List ℕ) → Tells (command_served c cpu host r payload)
  command-tells (Err fault) payload = (refl, λ e. plain)
  command-tells (Ok cmd) payload =
      either-tells (cmd.id == INFO) (serves_info c cpu host cmd payload) _ (refl, λ e. plain)
      (either-tells (is_ram_command cmd) (serves_ram c cpu host cmd payload) (serves_host c host cmd payload)
      (ram-tells cmd payload) (refl, λ e. plain))

-- all steps complete
moves-done : (steps : List Step) (cut : Option Cut) → (cut_moves cut steps).whole ≡ true
    → (cut_moves cut steps).moves ≡ all_done steps
moves-done [] cut whole = refl
moves-done (step ∷ steps) None whole = ap (λ ms. Done step ∷ ms) (moves-done steps None whole)
moves-done (step ∷ steps) (Some cut) whole =
    go (cut.left == 0) whole (λ h. moves-done steps (Some (nearer cut)) h)
  where
    go : (b : Bool) → (if b then record { moves = Torn step cut.within cut.pattern ∷ []; whole = false; armed = None }
        else move_first (Done step) (cut_moves (Some (nearer cut)) steps)).whole ≡ true
        → ((cut_moves (Some (nearer cut)) steps).whole ≡ true
        → (cut_moves (Some (nearer cut)) steps).moves ≡ all_done steps)
        → (if b then record { moves = Torn step cut.within cut.pattern ∷ []; whole = false; armed = None }
        else move_first (Done step) (cut_moves (Some (nearer cut)) steps)).moves ≡ all_done (step ∷ steps)
    go true all more = cc
    go false all more = ap (λ ms. Done step ∷ ms) (more all)

own-done : (m : MachineView) (event : EventView) → (note_of m event).whole ≡ true
    → own_moves m event ≡ all_done (own_steps m event)
own-done m event whole =
    moves-done (own_steps m event) (told_cut (armed_for m.armed event))
    (sym (own-whole m event) ∙ or-first _ _ whole)
  where
    or-first : (a b : Bool) → a ≡ true → (a || b) ≡ true
    or-first true b e = refl
    or-first false b e = cc

-- behind a boot no download is current
decided-plain : (c : Content) (d : Decision) → IsPlainAt (decided_place c d)
decided-plain c (decisions.Start choice) = tt
decided-plain c (decisions.Bootsel fall) = tt

followed-plain : (c : Content) (cpu : Cpu) (s : ServedEvent) (boot : Option BootKind) → IsPlainAt s.place
    → IsPlainAt (followed_by c cpu s boot).place
followed-plain c cpu s None plain = plain
followed-plain c cpu s (Some kind) plain =
    decided-plain (after_all c s.steps) (decision_in (after_all c s.steps) cpu kind)

-- what an event comes to where no power is lost: it holds pages back where it is of a gated download, and where it is
-- of none, none is current behind it
abbrev Comes : MachineView → EventView → Type 0
Comes m event =
    (outcome_holds (came_of m event) (all_done (own_steps m event))
    ≡ serves_gated (served_in m.content m.cpu m.place event))
    × (serves_gated (served_in m.content m.cpu m.place event) ≡ false → IsPlainAt (effect m event).place)

-- what runs buys itself, or has nothing to buy
abbrev bought_by : Content → Cpu → Choice → Bool → Effect
bought_by c cpu choice trial =
    if trial then record {
      steps = buy_steps c cpu choice;
      place = Running (FromFlash (bought_choice choice));
      outcome = events.Bought;
    }
    else stays_with (Running (FromFlash choice)) events.NothingToBuy

bought-comes : (c : Content) (cpu : Cpu) (choice : Choice) (trial : Bool)
    → (outcome_holds (bought_by c cpu choice trial).outcome [] ≡ false)
    × (serves_gated None ≡ false → IsPlainAt (bought_by c cpu choice trial).place)
bought-comes c cpu choice true = (refl, λ e. tt)
bought-comes c cpu choice false = (refl, λ e. tt)

comes-in : (c : Content) (cpu : Cpu) (armed : Option (Option Cut)) (place : StateView) (event : EventView)
    → IsPlainAt place → Comes (record { content = c; armed = armed; cpu = cpu; place = place }) event
comes-in c cpu armed Off EventView.PowerOn plain = (refl, λ e. decided-plain c (decision_in c cpu Normal))
comes-in c cpu armed Off EventView.End plain = (refl, λ e. tt)
comes-in c cpu armed Off (EventView.Command command payload) plain = (refl, λ e. tt)
comes-in c cpu armed Off (EventView.Uf2 block) plain = (refl, λ e. tt)
comes-in c cpu armed Off (EventView.Cut after within pattern) plain = (refl, λ e. tt)
comes-in c cpu armed Off (EventView.Reset kind) plain = (refl, λ e. tt)
comes-in c cpu armed Off EventView.Buy plain = (refl, λ e. tt)
comes-in c cpu armed (InBootsel host) (EventView.Command command payload) plain =
    let s = served_event c cpu host (EventView.Command command payload) in
    let tells = command-tells c cpu host plain (command_in command) payload in
    (tells.0, λ e. followed-plain c cpu s s.boot (tells.1 e))
comes-in c cpu armed (InBootsel host) (EventView.Uf2 block) plain =
    let s = served_event c cpu host (EventView.Uf2 block) in
    let tells = uf2-tells c cpu host plain (uf2_of block) in
    (tells.0, λ e. followed-plain c cpu s s.boot (tells.1 e))
comes-in c cpu armed (InBootsel host) (EventView.Reset kind) plain =
    (refl, λ e. decided-plain c (decision_in c cpu kind))
comes-in c cpu armed (InBootsel host) EventView.End plain = (refl, λ e. plain)
comes-in c cpu armed (InBootsel host) (EventView.Cut after within pattern) plain = (refl, λ e. plain)
comes-in c cpu armed (InBootsel host) EventView.PowerOn plain = (refl, λ e. plain)
comes-in c cpu armed (InBootsel host) EventView.Buy plain = (refl, λ e. plain)
comes-in c cpu armed (Running program) (EventView.Reset kind) plain =
    (refl, λ e. decided-plain c (decision_in c cpu kind))
comes-in c cpu armed (Running (FromRam image)) EventView.Buy plain = (refl, λ e. tt)
comes-in c cpu armed (Running (FromFlash choice)) EventView.Buy plain = bought-comes c cpu choice choice.image.trial
comes-in c cpu armed (Running program) EventView.End plain = (refl, λ e. tt)
comes-in c cpu armed (Running program) (EventView.Command command payload) plain = (refl, λ e. tt)
comes-in c cpu armed (Running program) (EventView.Uf2 block) plain = (refl, λ e. tt)
comes-in c cpu armed (Running program) (EventView.Cut after within pattern) plain = (refl, λ e. tt)
comes-in c cpu armed (Running program) EventView.PowerOn plain = (refl, λ e. tt)

-- the place behind an event, where power may be lost
moved-plain : (m : MachineView) (event : EventView)
    → ((note_of m event).whole ≡ true → IsPlainAt (effect m event).place)
    → IsPlainAt (moved_machine m event).next.place
unfolding moved_machine
moved-plain m event plain =
    go (cut_steps (effect m event).steps (told_cut (armed_for m.armed event)) m.content).answer
    (ap (λ (o : CutOutcome). o.answer)
    (cut-steps (effect m event).steps (told_cut (armed_for m.armed event)) m.content))
  where
    go : (b : Bool) → b ≡ (note_of m event).whole → IsPlainAt (if b then (effect m event).place else Off)
    go true is = plain (sym is)
    go false is = tt

event-tells : (m : MachineView) (event : EventView) → IsPlainAt m.place
    → (is_holding m event ≡ is_gated_block m event)
    × (is_gated_block m event ≡ false → IsPlainAt (moved_machine m event).next.place)
event-tells m event plain = (
  holds (note_of m event).whole refl,
  λ none. moved-plain m event (λ whole. comes.1 (sym (ap (λ b. b && serves_gated (served_in m.content m.cpu m.place event)) whole) ∙ none)),
)
  where
    comes : Comes m event
    comes = comes-in m.content m.cpu m.armed m.place event plain

    holds : (b : Bool) → (note_of m event).whole ≡ b → is_holding m event ≡ is_gated_block m event
    holds true is =
        ap (λ ms. (note_of m event).whole && outcome_holds (came_of m event) ms) (own-done m event is)
        ∙ ap (λ x. (note_of m event).whole && x) comes.0
    holds false is =
        ap (λ w. w && outcome_holds (came_of m event) (own_moves m event)) is
        ∙ sym (ap (λ w. w && serves_gated (served_in m.content m.cpu m.place event)) is)

-- the first of events
first-gated : (k : ℕ) (m : MachineView) (events : List EventView) → IsPlainAt m.place
    → first_event is_holding k m events ≡ first_event is_gated_block k m events
first-gated k m [] plain = refl
first-gated k m (event ∷ events) plain =
    let tells = event-tells m event plain in
    let next = (moved_machine m event).next in
    ap (λ b. if b then Some k else first_event is_holding (k + 1) next events) tells.0
    ∙ go (is_gated_block m event) refl (λ none. first-gated (k + 1) next events (tells.1 none))
  where
    go : (b : Bool) → is_gated_block m event ≡ b
        → (is_gated_block m event ≡ false
        → first_event is_holding (k + 1) (moved_machine m event).next events
        ≡ first_event is_gated_block (k + 1) (moved_machine m event).next events)
        → (if b then Some k else first_event is_holding (k + 1) (moved_machine m event).next events)
        ≡ (if b then Some k else first_event is_gated_block (k + 1) (moved_machine m event).next events)
    go true is more = refl
    go false is more = more is

pub held-gated : (c : Content) (cpu : Cpu) (events : List EventView)
    → (script_caveats c cpu events).held ≡ first_event is_gated_block 0 (powerless c cpu) events
held-gated c cpu events = first-gated 0 (powerless c cpu) events tt
