-- What is behind the own moves of a script's events, by the notes and the moves, and by the machine.
use Rattle.std.proofs.Common.{◌≡◌, ◌≢◌, Bool, true, false, List, [], ◌∷◌, ◌++◌, take, drop, Option, Some, None, refl, sym, ap, ◌∙◌, subst, inl, inr}
use Rattle.std.specs.Prelude.{◌↔◌, ◌||◌}
use Rattle.std.specs.List.{list_any}
use Rattle.std.proofs.Math.Seq.{drop-append_seam, take-append_seam}
use Rattle.pico_board.specs.declared.Step.{Step}
use Rattle.pico_board.specs.declared.boot.Cpu.{Cpu}
use Rattle.pico_board.specs.Content.{Content}
use Rattle.pico_board.specs.Cuts.{Cut, CutOutcome}
use Rattle.image_def.specs.declared.started.Started.{Started}
use Rattle.slot_choice.specs.declared.choice.Choice.{Choice}
use Rattle.boot_script.specs.Events.{EventView}
use Rattle.boot_machine.specs.Machines.{MachineView, Program, StateView, Off, InBootsel, Running, FromFlash, FromRam}
use Rattle.boot_machine.specs.Moves.{armed_for, effect}
use Rattle.boot_machine.specs.Serving.{is_hosted}
use Rattle.boot_machine.specs.Plays.{moved_machine, powerless, told_cut}
use Rattle.boot_tape.specs.declared.notes.Behind.{Behind}
use Rattle.boot_tape.specs.declared.notes.Behind.TheVariants as behinds
use Rattle.boot_tape.specs.declared.notes.Note.{Note}
use Rattle.boot_tape.specs.CutMoves.{cut_moves}
use Rattle.boot_tape.specs.Moving.{MoveView, after_moves, does_step}
use Rattle.boot_tape.specs.Traces.{behind, event_moves, moves_in, note_of, noted, own_moves, own_steps, served_steps}
use Rattle.boot_tape.proofs.NoteLemmas.{buy-behind, own-moves, unserved}
use Rattle.boot_tape.proofs.TraceLemmas.{cut-steps}
use Rattle.check_require.specs.declared.report.LawOfWrites.{LawOfWrites}
use Rattle.check_laws.specs.declared.made.WriteLaws.{WriteLaws}
use Rattle.check_laws.specs.Hosting.{host_writes}
use Rattle.check_laws.specs.Hosts.{HostWrites, Writes}
use Rattle.check_laws.specs.Made.{Made, laws_over, laws_with, made_by, made_of, no_writes}
use Rattle.check_laws.specs.OwnLaws.{BootMade, BuyMade, IsBootKept, IsBootLaw, IsBuyKept, IsBuyLaw, boot_by, boot_kept, boots_in, buy_by, buys_in, content_behind, raises_own, steps_behind}
use Rattle.check_laws.proofs.OwnLemmas.{boot-is, buy-kept}
use Rattle.check_laws.proofs.WriteLawLemmas.{law-is, law_over, over-append}

-- what is behind the own moves of an event
abbrev pub made_at : MachineView → EventView → Made
made_at m event =
    record { before = content_behind m event; by = behind m event; done = steps_behind m event }

abbrev pub made_in : MachineView → List EventView → List Made
made_in m [] = []
made_in m (event ∷ events) = made_at m event ∷ made_in (moved_machine m event).next events

-- the content behind an event
pub next-content : (m : MachineView) (event : EventView)
    → (moved_machine m event).next.content ≡ after_moves m.content (event_moves m event)
unfolding moved_machine
next-content m event =
    ap (λ (o : CutOutcome). o.content) (cut-steps (effect m event).steps (told_cut (armed_for m.armed event)) m.content)

made-one : (m : MachineView) (event : EventView) → made_of m.content (note_of m event) (event_moves m event) ≡ made_at m event
made-one m event =
    ap (λ own. record {
      before = after_moves m.content own;
      by = behind m event;
      done = steps_behind m event;
    }) (own-moves m event)

-- the notes and the moves of a script tell what the machine makes
pub made-is : (m : MachineView) (events : List EventView)
    → made_by m.content (noted m events) (moves_in m events) ≡ made_in m events
made-is m [] = refl
made-is m (event ∷ events) =
    let note = note_of m event in
    let mine = event_moves m event in
    let next = (moved_machine m event).next in
    let others = moves_in next events in
    ap (λ ms. made_of m.content note ms
    ∷ made_by (after_moves m.content ms) (noted next events) (drop note.moves (mine ++ others))) (take-append_seam mine others)
    ∙ (ap (λ ms. made_of m.content note mine ∷ made_by (after_moves m.content mine) (noted next events) ms)
    (drop-append_seam mine others)
    ∙ (ap (λ x. x ∷ made_by (after_moves m.content mine) (noted next events) others) (made-one m event)
    ∙ (ap (λ c. made_at m event ∷ made_by c (noted next events) others) (sym (next-content m event))
    ∙ ap (λ xs. made_at m event ∷ xs) (made-is next events))))

-- the laws that are told, of boots and of buys
abbrev boots_over : Cpu → LawOfWrites → List BootMade → LawOfWrites
boots_over cpu law boots =
    law_over (λ (b : BootMade). b.done) (λ b. boot_kept b.before cpu b.kind b.done) (IsBootKept cpu) law boots

abbrev buys_over : Cpu → LawOfWrites → List BuyMade → LawOfWrites
buys_over cpu law buys =
    law_over (λ (b : BuyMade). b.done) (λ b. raises_own b.before cpu b.choice.image b.done) (IsBuyKept cpu) law buys

boot-one : (cpu : Cpu) (found : WriteLaws) (by : Behind) (before : Content) (done : List Step)
    → (laws_with cpu found (record { before = before; by = by; done = done })).boot
    ≡ boots_over cpu found.boot (boot_by by before done)
boot-one cpu found behinds.Nothing before [] = refl
boot-one cpu found behinds.Nothing before (step ∷ steps) = refl
boot-one cpu found (behinds.Boot kind) before [] = refl
boot-one cpu found (behinds.Boot kind) before (step ∷ steps) = refl
boot-one cpu found (behinds.Buy image) before [] = refl
boot-one cpu found (behinds.Buy image) before (step ∷ steps) = refl

pub boots-told : (cpu : Cpu) (found : WriteLaws) (m : MachineView) (events : List EventView)
    → (laws_over cpu found (made_in m events)).boot ≡ boots_over cpu found.boot (boots_in m events)
boots-told cpu found m [] = refl
boots-told cpu found m (event ∷ events) =
    let next = (moved_machine m event).next in
    let here = boot_by (behind m event) (content_behind m event) (steps_behind m event) in
    boots-told cpu (laws_with cpu found (made_at m event)) next events
    ∙ (ap (λ law. boots_over cpu law (boots_in next events))
    (boot-one cpu found (behind m event) (content_behind m event) (steps_behind m event))
    ∙ sym (over-append (λ (b : BootMade). b.done) (λ b. boot_kept b.before cpu b.kind b.done) (IsBootKept cpu)
    found.boot here (boots_in next events)))

-- what is no buy leaves the law of buys
other-by : (cpu : Cpu) (found : WriteLaws) (by : Behind) (before : Content) (done : List Step)
    → ((image : Started) → by ≡ behinds.Buy image → ⊥)
    → (laws_with cpu found (record { before = before; by = by; done = done })).buy ≡ found.buy
other-by cpu found behinds.Nothing before [] none = refl
other-by cpu found behinds.Nothing before (step ∷ steps) none = refl
other-by cpu found (behinds.Boot kind) before [] none = refl
other-by cpu found (behinds.Boot kind) before (step ∷ steps) none = refl
other-by cpu found (behinds.Buy image) before done none = absurd (none image refl)

-- a buy of an image that was started from flash
buy-by : (cpu : Cpu) (found : WriteLaws) (choice : Choice) (before : Content) (done : List Step)
    → (laws_with cpu found (record { before = before; by = behinds.Buy choice.image; done = done })).buy
    ≡ buys_over cpu found.buy (buy_by (Running (FromFlash choice)) EventView.Buy before done)
buy-by cpu found choice before [] = refl
buy-by cpu found choice before (step ∷ steps) = refl

module _ (c : Content) (armed : Option (Option Cut)) (own : Cpu) (cpu : Cpu) (found : WriteLaws) where
  abbrev at : StateView → MachineView
  at place = record { content = c; armed = armed; cpu = own; place = place }

  abbrev Same : StateView → EventView → Type 0
  Same place event =
      (laws_with cpu found (made_at (at place) event)).buy
      ≡ buys_over cpu found.buy (buy_by place event (content_behind (at place) event) (steps_behind (at place) event))

  quiet : (place : StateView) (event : EventView)
      → ((image : Started) → behind (at place) event ≡ behinds.Buy image → ⊥)
      → (laws_with cpu found (made_at (at place) event)).buy ≡ found.buy
  quiet place event none =
      other-by cpu found (behind (at place) event) (content_behind (at place) event) (steps_behind (at place) event) none

  no-buy : (place : StateView) (event : EventView)
      → ((program : Program) → place ≡ Running program → ⊥)
      → (laws_with cpu found (made_at (at place) event)).buy ≡ found.buy
  no-buy place event none =
      quiet place event
      (λ image is. none (buy-behind (at place) event image is).program (buy-behind (at place) event image is).runs)

  same-running : (program : Program) (event : EventView) → Same (Running program) event
  same-running (FromFlash choice) EventView.Buy =
      buy-by cpu found choice c (steps_behind (at (Running (FromFlash choice))) EventView.Buy)
  same-running (FromFlash choice) EventView.End = quiet (Running (FromFlash choice)) EventView.End (λ image is. cc)
  same-running (FromFlash choice) EventView.PowerOn = quiet (Running (FromFlash choice)) EventView.PowerOn (λ image is. cc)
  same-running (FromFlash choice) (EventView.Command command payload) =
      quiet (Running (FromFlash choice)) (EventView.Command command payload) (λ image is. cc)
  same-running (FromFlash choice) (EventView.Uf2 block) =
      quiet (Running (FromFlash choice)) (EventView.Uf2 block) (λ image is. cc)
  same-running (FromFlash choice) (EventView.Cut left within pattern) =
      quiet (Running (FromFlash choice)) (EventView.Cut left within pattern) (λ image is. cc)
  same-running (FromFlash choice) (EventView.Reset kind) =
      quiet (Running (FromFlash choice)) (EventView.Reset kind) (λ image is. cc)
  same-running (FromRam ram) EventView.Buy = refl
  same-running (FromRam ram) EventView.End = quiet (Running (FromRam ram)) EventView.End (λ image is. cc)
  same-running (FromRam ram) EventView.PowerOn = quiet (Running (FromRam ram)) EventView.PowerOn (λ image is. cc)
  same-running (FromRam ram) (EventView.Command command payload) =
      quiet (Running (FromRam ram)) (EventView.Command command payload) (λ image is. cc)
  same-running (FromRam ram) (EventView.Uf2 block) = quiet (Running (FromRam ram)) (EventView.Uf2 block) (λ image is. cc)
  same-running (FromRam ram) (EventView.Cut left within pattern) =
      quiet (Running (FromRam ram)) (EventView.Cut left within pattern) (λ image is. cc)
  same-running (FromRam ram) (EventView.Reset kind) = quiet (Running (FromRam ram)) (EventView.Reset kind) (λ image is. cc)

  pub buy-one : (place : StateView) (event : EventView) → Same place event
  buy-one Off event = no-buy Off event (λ program is. cc)
  buy-one (InBootsel host) event = no-buy (InBootsel host) event (λ program is. cc)
  buy-one (Running program) event = same-running program event

pub buys-told : (cpu : Cpu) (found : WriteLaws) (m : MachineView) (events : List EventView)
    → (laws_over cpu found (made_in m events)).buy ≡ buys_over cpu found.buy (buys_in m events)
buys-told cpu found m [] = refl
buys-told cpu found m (event ∷ events) =
    let next = (moved_machine m event).next in
    let here = buy_by m.place event (content_behind m event) (steps_behind m event) in
    buys-told cpu (laws_with cpu found (made_at m event)) next events
    ∙ (ap (λ law. buys_over cpu law (buys_in next events)) (buy-one m.content m.armed m.cpu cpu found m.place event)
    ∙ sym (over-append (λ (b : BuyMade). b.done) (λ b. raises_own b.before cpu b.choice.image b.done) (IsBuyKept cpu)
    found.buy here (buys_in next events)))

-- the laws of a script
pub boot-law : (c : Content) (cpu : Cpu) (events : List EventView) (found : WriteLaws)
    → found ≡ laws_over cpu no_writes (made_by c (noted (powerless c cpu) events) (moves_in (powerless c cpu) events))
    → IsBootLaw c cpu events found.boot
boot-law c cpu events found is =
    subst (IsBootLaw c cpu events)
    (sym (ap (λ (x : WriteLaws). x.boot) (is ∙ ap (laws_over cpu no_writes) (made-is (powerless c cpu) events))
    ∙ boots-told cpu no_writes (powerless c cpu) events))
    (law-is (λ (b : BootMade). b.done) (λ b. boot_kept b.before cpu b.kind b.done) (IsBootKept cpu)
    (λ b. boot-is b.before cpu b.kind b.done) (boots_in (powerless c cpu) events))

pub buy-law : (c : Content) (cpu : Cpu) (events : List EventView) (found : WriteLaws)
    → found ≡ laws_over cpu no_writes (made_by c (noted (powerless c cpu) events) (moves_in (powerless c cpu) events))
    → IsBuyLaw c cpu events found.buy
buy-law c cpu events found is =
    subst (IsBuyLaw c cpu events)
    (sym (ap (λ (x : WriteLaws). x.buy) (is ∙ ap (laws_over cpu no_writes) (made-is (powerless c cpu) events))
    ∙ buys-told cpu no_writes (powerless c cpu) events))
    (law-is (λ (b : BuyMade). b.done) (λ b. raises_own b.before cpu b.choice.image b.done) (IsBuyKept cpu)
    (λ b. buy-kept b.before cpu b.choice.image b.done (raises_own b.before cpu b.choice.image b.done) refl b.choice refl)
    (buys_in (powerless c cpu) events))

-- the laws are those of the machine
pub laws-told : (c x : Content) (cpu : Cpu) (events : List EventView) (notes : List Note) (moves : List MoveView)
    (found : WriteLaws) → x ≡ c → notes ≡ noted (powerless c cpu) events → moves ≡ moves_in (powerless c cpu) events
    → found ≡ laws_over cpu no_writes (made_by x notes moves)
    → found ≡ laws_over cpu no_writes (made_by c (noted (powerless c cpu) events) (moves_in (powerless c cpu) events))
laws-told c x cpu events notes moves found same noted_is moves_is is =
    is
    ∙ (ap (λ y. laws_over cpu no_writes (made_by y notes moves)) same
    ∙ (ap (λ ns. laws_over cpu no_writes (made_by c ns moves)) noted_is
    ∙ ap (λ ms. laws_over cpu no_writes (made_by c (noted (powerless c cpu) events) ms)) moves_is))

none-moves : (m : MachineView) (event : EventView) (steps : List Step) → steps ≡ []
    → (cut_moves (told_cut (armed_for m.armed event)) steps).moves ≡ []
none-moves m event steps none =
    ap (λ (xs : List Step). (cut_moves (told_cut (armed_for m.armed event)) xs).moves) none ∙ moves-none (told_cut (armed_for m.armed event))
  where
    moves-none : (cut : Option Cut) → (cut_moves cut []).moves ≡ []
    moves-none None = refl
    moves-none (Some cut) = refl

-- only a host's event has moves of its own
pub none-own : (m : MachineView) (event : EventView) → is_hosted event ≡ false → own_moves m event ≡ []
none-own m event other =
    none-moves m event (own_steps m event) (ap served_steps (unserved m.content m.cpu m.place event other))

own-hosted : (m : MachineView) (event : EventView) → own_moves m event ≢ [] → is_hosted event ≡ true
own-hosted m event some = go (is_hosted event) refl
  where
    go : (b : Bool) → is_hosted event ≡ b → is_hosted event ≡ true
    go true is = is
    go false is = absurd (some (none-own m event is))

-- one of the own moves of an event completes or is torn, or one of those of a later event
abbrev writes_at : MachineView → List EventView → Bool
writes_at m [] = false
writes_at m (event ∷ events) =
    list_any does_step (own_moves m event) || writes_at (moved_machine m event).next events

writes-is : (m : MachineView) (events : List EventView)
    → host_writes (noted m events) (moves_in m events) ≡ writes_at m events
writes-is m [] = refl
writes-is m (event ∷ events) =
    let note = note_of m event in
    let mine = event_moves m event in
    let next = (moved_machine m event).next in
    let others = moves_in next events in
    ap (λ ms. list_any does_step (take note.own ms) || host_writes (noted next events) (drop note.moves (mine ++ others)))
    (take-append_seam mine others)
    ∙ (ap (λ ms. list_any does_step (take note.own mine) || host_writes (noted next events) ms) (drop-append_seam mine others)
    ∙ (ap (λ xs. list_any does_step xs || host_writes (noted next events) others) (own-moves m event)
    ∙ ap (λ b. list_any does_step (own_moves m event) || b) (writes-is next events)))

some-moves : (xs : List MoveView) → list_any does_step xs ≡ true → xs ≢ []
some-moves [] e = cc
some-moves (x ∷ xs) e = λ none. cc

writes-to : (m : MachineView) (events : List EventView) → writes_at m events ≡ true → Writes m events
writes-to m [] e = cc
writes-to m (event ∷ events) e =
    go (list_any does_step (own_moves m event)) refl (writes-to (moved_machine m event).next events) e
  where
    go : (b : Bool) → list_any does_step (own_moves m event) ≡ b
        → (writes_at (moved_machine m event).next events ≡ true → Writes (moved_machine m event).next events)
        → (b || writes_at (moved_machine m event).next events) ≡ true → Writes m (event ∷ events)
    go true is later e = inl (own-hosted m event (some-moves (own_moves m event) is), is)
    go false is later e = inr (later e)

or-right : (a b : Bool) → b ≡ true → (a || b) ≡ true
or-right true b is = refl
or-right false b is = is

writes-from : (m : MachineView) (events : List EventView) → Writes m events → writes_at m events ≡ true
writes-from m [] w = absurd w
writes-from m (event ∷ events) (inl here) =
    ap (λ b. b || writes_at (moved_machine m event).next events) here.1
writes-from m (event ∷ events) (inr later) =
    or-right (list_any does_step (own_moves m event)) _ (writes-from (moved_machine m event).next events later)

-- a host writes exactly where a noted move of its own completes or is torn
pub host-writes : (c : Content) (cpu : Cpu) (events : List EventView) (notes : List Note) (moves : List MoveView)
    (writes : Bool) → notes ≡ noted (powerless c cpu) events → moves ≡ moves_in (powerless c cpu) events
    → writes ≡ host_writes notes moves
    → (writes ≡ true) ↔ HostWrites c cpu events
host-writes c cpu events notes moves writes noted_is moves_is is =
    let all = is ∙ (ap (λ ns. host_writes ns moves) noted_is
    ∙ (ap (host_writes (noted (powerless c cpu) events)) moves_is ∙ writes-is (powerless c cpu) events)) in (
      λ e. writes-to (powerless c cpu) events (sym all ∙ e),
      λ w. all ∙ writes-from (powerless c cpu) events w,
    )
