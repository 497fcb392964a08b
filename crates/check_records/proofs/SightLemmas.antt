-- What events have to do with downloads is seen in what is noted of them.
use Rattle.std.proofs.Common.{◌≡◌, ◌∙◌, ℕ, Bool, true, false, cond, List, [], ◌∷◌, Option, Some, None, Ok, Err, refl, sym, ap, subst}
use Rattle.std.specs.Prelude.{◌&&◌, IfOk, Result, if◌then◌else◌, is_some, not}
use Rattle.std.specs.List.{list_any}
use Rattle.pico_board.specs.declared.boot.Cpu.{Cpu}
use Rattle.pico_board.specs.Content.{Content}
use Rattle.pico_board.specs.Cuts.{Cut, CutOutcome}
use Rattle.uf2_place.specs.Blocks.{uf2_of}
use Rattle.boot_script.specs.Events.{EventView}
use Rattle.boot_machine.specs.Machines.{Host, MachineView, StateView, Off, InBootsel, Running}
use Rattle.boot_machine.specs.Serving.{ServedEvent, uf2_served}
use Rattle.boot_machine.specs.Standing.{placing_at}
use Rattle.boot_machine.specs.Plays.{moved_machine, played, powerless, told_cut}
use Rattle.boot_tape.specs.CutMoves.{cut_moves}
use Rattle.boot_tape.specs.declared.notes.Note.{Note}
use Rattle.boot_tape.specs.declared.trace.Trace.{Trace}
use Rattle.boot_tape.specs.Playing.{IsTraceOf}
use Rattle.boot_tape.specs.Traces.{note_of, noted}
use Rattle.boot_tape.proofs.NoteLemmas.{own-whole}
use Rattle.boot_tape.proofs.TraceLemmas.{cut-steps}
use Rattle.check_records.specs.declared.downloads.Beginning.{Beginning}
use Rattle.check_records.specs.declared.downloads.Kind.{Kind}
use Rattle.check_records.specs.declared.downloads.Share.{Share}
use Rattle.check_records.specs.declared.downloads.Share.TheVariants.{Keeps, Drops}
use Rattle.check_records.specs.declared.found.Records.{Records}
use Rattle.check_records.specs.Idle.{Idle, idle_from, refused_of}
use Rattle.check_records.specs.Noting.{current_after}
use Rattle.check_records.specs.Records.{records_of}
use Rattle.check_records.specs.Seeing.{Knows, alone_in, current_kind, is_other, is_over, other_seen, records_seen, share_seen, shares_seen, unless_lost}
use Rattle.check_records.specs.Shares.{block_share, kind_at, share_of, shares}
use Rattle.check_records.specs.Unfinished.{first_number, is_beginning, open_from}
use Rattle.check_records.proofs.BlockLemmas.{block-known, block-told}
use Rattle.check_records.proofs.OtherLemmas.{moved-place, other-kind, other-share}
use Rattle.check_records.proofs.OutcomeLemmas.{idle-seen}

-- an event is seen by its note, and the download that is current behind it is known
pub record IsSeen (current : Option Beginning) (m : MachineView) (event : EventView) : Type 0 where
  pub share : share_seen current event (note_of m event) ≡ share_of m event
  pub knows : Knows (current_after current (share_of m event)) (moved_machine m event).next.place

-- a block in BOOTSEL
module _ (c : Content) (cpu : Cpu) (armed : Option (Option Cut)) (host : Host) (bytes : List ℕ) (current : Option Beginning)
    (knows : current_kind current ≡ kind_at host.placing) where
  abbrev here : MachineView
  here = record { content = c; armed = armed; cpu = cpu; place = InBootsel host }

  abbrev told : EventView
  told = EventView.Uf2 bytes

  abbrev served : ServedEvent
  served = uf2_served c cpu host (uf2_of bytes)

  -- what the block has to do with downloads, by what came of its own steps
  abbrev alone : Share
  alone =
      block_share (kind_at host.placing) (uf2_of bytes) (unless_lost (cut_moves (told_cut armed) served.steps).whole served.outcome)

  share-block : share_of here told ≡ alone
  unfolding share_of
  share-block =
      ap (λ (o : CutOutcome). block_share (kind_at host.placing) (uf2_of bytes) (unless_lost o.answer served.outcome))
      (cut-steps served.steps (told_cut armed) c)

  seen-block : share_seen current told (note_of here told) ≡ alone
  seen-block =
      ap (λ (b : Bool). if b then block_share (current_kind current) (uf2_of bytes) (alone_in (note_of here told))
      else other_seen current (note_of here told)) (block-told c cpu host (uf2_of bytes))
      ∙ (ap (λ (b : Bool). block_share (current_kind current) (uf2_of bytes) (unless_lost b served.outcome)) (own-whole here told)
      ∙ ap (λ (k : Option Kind). block_share k (uf2_of bytes) (unless_lost (cut_moves (told_cut armed) served.steps).whole served.outcome))
      knows)

  block-seen : IsSeen current here told
  block-seen = record {
    share = seen-block ∙ sym share-block;
    knows = subst (λ (x : Share). Knows (current_after current x) (moved_machine here told).next.place) (sym share-block)
        (subst (Knows (current_after current alone)) (sym (moved-place here told))
        (block-known c cpu (told_cut armed) host current knows (uf2_of bytes)));
  }

-- another event
shared-so : (current : Option Beginning) (over : Bool)
    → cond (is_some (cond over None (current_kind current))) Keeps Drops ≡ cond (is_some current && not over) Keeps Drops
shared-so None true = refl
shared-so None false = refl
shared-so (Some b) true = refl
shared-so (Some b) false = refl

known-so : (current : Option Beginning) (over : Bool)
    → current_kind (current_after current (cond (is_some current && not over) Keeps Drops)) ≡ cond over None (current_kind current)
known-so None true = refl
known-so None false = refl
known-so (Some b) true = refl
known-so (Some b) false = refl

-- elsewhere no block is told
seen-other : (c : Content) (cpu : Cpu) (armed : Option (Option Cut)) (place : StateView) (event : EventView)
    (current : Option Beginning) → is_other place event ≡ true
    → (let m : MachineView = record { content = c; armed = armed; cpu = cpu; place = place } in
    share_seen current event (note_of m event) ≡ other_seen current (note_of m event))
seen-other c cpu armed place EventView.End current other = refl
seen-other c cpu armed place (EventView.Command command payload) current other = refl
seen-other c cpu armed Off (EventView.Uf2 block) current other = refl
seen-other c cpu armed (InBootsel host) (EventView.Uf2 block) current other = cc
seen-other c cpu armed (Running program) (EventView.Uf2 block) current other = refl
seen-other c cpu armed place (EventView.Cut left within pattern) current other = refl
seen-other c cpu armed place EventView.PowerOn current other = refl
seen-other c cpu armed place (EventView.Reset kind) current other = refl
seen-other c cpu armed place EventView.Buy current other = refl

other-seen : (current : Option Beginning) (m : MachineView) (event : EventView) → Knows current m.place
    → is_other m.place event ≡ true → IsSeen current m event
other-seen current m event knows other =
    let over = is_over (note_of m event) in
    let kind : kind_at (placing_at (moved_machine m event).next.place) ≡ cond over None (current_kind current) =
    other-kind m event other ∙ ap (λ (k : Option Kind). cond over None k) (sym knows) in
    let share : share_of m event ≡ other_seen current (note_of m event) =
    other-share m event other
    ∙ (ap (λ (k : Option Kind). cond (is_some k) Keeps Drops) kind ∙ shared-so current over) in record {
      share = seen-other m.content m.cpu m.armed m.place event current other ∙ sym share;
      knows = ap (λ (x : Share). current_kind (current_after current x)) share ∙ (known-so current over ∙ sym kind);
    }

abbrev machine_in : Content → Cpu → Option (Option Cut) → StateView → MachineView
machine_in c cpu armed place = record { content = c; armed = armed; cpu = cpu; place = place }

event-in : (c : Content) (cpu : Cpu) (armed : Option (Option Cut)) (place : StateView) (event : EventView)
    (current : Option Beginning) → Knows current place
    → IsSeen current (machine_in c cpu armed place) event
event-in c cpu armed Off event current knows = other-seen current (machine_in c cpu armed Off) event knows refl
event-in c cpu armed (Running program) event current knows =
    other-seen current (machine_in c cpu armed (Running program)) event knows refl
event-in c cpu armed (InBootsel host) (EventView.Uf2 block) current knows =
    block-seen c cpu armed host block current knows
event-in c cpu armed (InBootsel host) EventView.End current knows = other-seen current (machine_in c cpu armed (InBootsel host)) EventView.End knows refl
event-in c cpu armed (InBootsel host) (EventView.Command command payload) current knows =
    other-seen current (machine_in c cpu armed (InBootsel host)) (EventView.Command command payload) knows refl
event-in c cpu armed (InBootsel host) (EventView.Cut left within pattern) current knows =
    other-seen current (machine_in c cpu armed (InBootsel host)) (EventView.Cut left within pattern) knows refl
event-in c cpu armed (InBootsel host) EventView.PowerOn current knows =
    other-seen current (machine_in c cpu armed (InBootsel host)) EventView.PowerOn knows refl
event-in c cpu armed (InBootsel host) (EventView.Reset kind) current knows =
    other-seen current (machine_in c cpu armed (InBootsel host)) (EventView.Reset kind) knows refl
event-in c cpu armed (InBootsel host) EventView.Buy current knows = other-seen current (machine_in c cpu armed (InBootsel host)) EventView.Buy knows refl

-- events, one after another
shares-told : (current : Option Beginning) (m : MachineView) (events : List EventView) → Knows current m.place
    → shares_seen current events (noted m events) ≡ shares m events
shares-told current m [] knows = refl
shares-told current m (event ∷ events) knows =
    let is : IsSeen current m event = event-in m.content m.cpu m.armed m.place event current knows in
    let next = (moved_machine m event).next in
    ap (λ (x : Share). x ∷ shares_seen (current_after current x) events (noted next events)) is.share
    ∙ ap (λ (xs : List Share). share_of m event ∷ xs)
    (shares-told (current_after current (share_of m event)) next events is.knows)

abbrev of_both : List Idle → List Share → Records
of_both idle share = record {
  refused = refused_of idle;
  unfinished = first_number (open_from 0 share);
  begins = list_any is_beginning share;
}

-- what is found of a script by its notes is what is found of it as it is played
records-told : (c : Content) (cpu : Cpu) (events : List EventView)
    → records_seen events (noted (powerless c cpu) events) ≡ records_of c cpu events
records-told c cpu events =
    let m = powerless c cpu in
    ap (λ (xs : List Idle). of_both xs (shares_seen None events (noted m events))) (idle-seen false 0 m events)
    ∙ ap (of_both (idle_from false 0 (played m events).outcomes)) (shares-told None m events refl)

-- the same of what is found of a trace, where memory suffices
pub found-told : {E : Type 0} (r : Result Records E) (events : List EventView) (notes : List Note) (trace : Trace)
    → IfOk r (λ found. found ≡ records_seen events notes) → notes ≡ trace.notes.items
    → IfOk r (λ found. (c : Content) (cpu : Cpu) → IsTraceOf c cpu events trace → found ≡ records_of c cpu events)
found-told (Ok found) events notes trace is same = λ c cpu traced.
    is ∙ (ap (λ (ns : List Note). records_seen events ns) (same ∙ traced.notes) ∙ records-told c cpu events)
found-told (Err e) events notes trace is same = tt
