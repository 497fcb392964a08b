-- The caveats of a script are those of the function.
use Rattle.std.proofs.Common.{◌≡◌, ℕ, zero, suc, ◌+◌, ◌≤◌, ◌<◌, Bool, true, false, List, [], ◌∷◌, ◌++◌, length, take, drop, get_or, Option, Some, refl, sym, ap, ◌∙◌, arith}
use Rattle.std.specs.Prelude.{if◌then◌else◌}
use Rattle.std.proofs.lemmas.List.{length-take, take-append-le, take-map}
use Rattle.pico_board.specs.declared.boot.Cpu.{Cpu}
use Rattle.pico_board.specs.Content.{Content}
use Rattle.boot_script.specs.Events.{EventView}
use Rattle.boot_machine.specs.Machines.{MachineView}
use Rattle.boot_machine.specs.Plays.{moved_machine, powerless}
use Rattle.boot_sweep.specs.Moving.{MoveView}
use Rattle.boot_sweep.specs.declared.moves.Move.{Move}
use Rattle.boot_tape.specs.declared.notes.Note.{Note}
use Rattle.boot_tape.specs.declared.trace.Trace.{Trace}
use Rattle.boot_tape.specs.Moving.{move_from, moves_from}
use Rattle.boot_tape.specs.Playing.{IsTraceOf, flash_long}
use Rattle.boot_tape.specs.Traces.{event_moves, moves_in, note_of, noted, own_moves}
use Rattle.boot_tape.proofs.NoteLemmas.{own-moves}
use Rattle.check_records.specs.declared.found.ScriptCaveats.{ScriptCaveats}
use Rattle.check_records.specs.Caveats.{first_event, held_from, is_holding, is_skipping, note_holds, script_caveats, skipped_from}

pub behind-front : {X : Type 0} (xs ys : List X) → drop (length xs) (xs ++ ys) ≡ ys
behind-front [] ys = refl
behind-front (x ∷ xs) ys = behind-front xs ys

-- the own moves of an event are the first of its moves
own-front : (m : MachineView) (event : EventView) (rest : List MoveView)
    → take (note_of m event).own (event_moves m event ++ rest) ≡ own_moves m event
own-front m event rest =
    let own = own-moves m event in
    let size : length (take (note_of m event).own (event_moves m event)) ≡ (note_of m event).own =
    ap (λ (xs : List MoveView). length xs) own in
    let within : (note_of m event).own ≤ length (event_moves m event) =
    let short = length-take (note_of m event).own (event_moves m event) in omega (arith, size, short) in
    take-append-le (note_of m event).own (event_moves m event) rest within ∙ own

pub held-noted : (k : ℕ) (m : MachineView) (events : List EventView)
    → held_from k (noted m events) (moves_in m events) ≡ first_event is_holding k m events
held-noted k m [] = refl
held-noted k m (event ∷ events) =
    let next = (moved_machine m event).next in
    ap (λ xs. if note_holds (note_of m event) xs then Some k
    else held_from (k + 1) (noted next events) (drop (note_of m event).moves (event_moves m event ++ moves_in next events)))
    (own-front m event (moves_in next events))
    ∙ (ap (λ xs. if is_holding m event then Some k else held_from (k + 1) (noted next events) xs)
    (behind-front (event_moves m event) (moves_in next events))
    ∙ ap (λ o. if is_holding m event then Some k else o) (held-noted (k + 1) next events))

pub skipped-noted : (n k : ℕ) (m : MachineView) (events : List EventView)
    → skipped_from n k events (noted m events) ≡ first_event (is_skipping n) k m events
skipped-noted n k m [] = refl
skipped-noted n k m (event ∷ events) =
    ap (λ o. if is_skipping n m event then Some k else o) (skipped-noted n (k + 1) (moved_machine m event).next events)

-- what is found of a trace is what the function says
pub caveats-found : (c : Content) (cpu : Cpu) (events : List EventView) (trace : Trace) (n : ℕ)
    → n ≡ flash_long trace → IsTraceOf c cpu events trace → (held skipped : Option ℕ)
    → held ≡ held_from 0 trace.notes.items (moves_from trace.moves.items)
    → skipped ≡ skipped_from n 0 events trace.notes.items
    → (let found : ScriptCaveats = record { held = held; skipped = skipped } in found ≡ script_caveats c cpu events)
caveats-found c cpu events trace n size is held skipped h s =
    let m = powerless c cpu in
    let one : held ≡ first_event is_holding 0 m events =
    h ∙ (ap (λ notes. held_from 0 notes (moves_from trace.moves.items)) is.notes
    ∙ (ap (held_from 0 (noted m events)) is.moves ∙ held-noted 0 m events)) in
    let two : skipped ≡ first_event (is_skipping (length c.flash)) 0 m events =
    s ∙ (ap (λ k. skipped_from k 0 events trace.notes.items) (size ∙ is.size)
    ∙ (ap (skipped_from (length c.flash) 0 events) is.notes ∙ skipped-noted (length c.flash) 0 m events)) in
    ap (λ o. record { held = o; skipped = skipped }) one
    ∙ ap (λ o. record { held = first_event is_holding 0 m events; skipped = o }) two

drop-first : {X : Type 0} (xs : List X) (i : ℕ) (d : X) → i < length xs → drop i xs ≡ get_or xs i d ∷ drop (i + 1) xs
drop-first [] i d lt = absurd (omega (arith, lt))
drop-first (x ∷ xs) zero d lt = refl
drop-first (x ∷ xs) (suc i) d lt =
    let one : suc i + 1 ≡ suc (i + 1) = omega arith in
    drop-first xs i d (omega (arith, lt)) ∙ ap (λ n. get_or xs i d ∷ drop n (x ∷ xs)) (sym one)

drop-moves : (n : ℕ) (ms : List Move) → moves_from (drop n ms) ≡ drop n (moves_from ms)
drop-moves zero ms = refl
drop-moves (suc n) [] = refl
drop-moves (suc n) (m ∷ ms) = drop-moves n ms

drop-note : (notes : List Note) (i : ℕ) (note : Note) → i < length notes → note ≡ get_or notes i note
    → drop i notes ≡ note ∷ drop (i + 1) notes
drop-note notes i note lt at = drop-first notes i note lt ∙ ap (λ x. x ∷ drop (i + 1) notes) (sym at)

-- a note that does not hold is passed over
pub held-more : (notes : List Note) (i : ℕ) (note : Note) → i < length notes → note ≡ get_or notes i note
    → (rest next : List Move) → next ≡ drop note.moves rest → (front : List Move) → front ≡ take note.own rest
    → (b : Bool) → b ≡ note_holds note (moves_from front) → b ≡ false → (all : Option ℕ)
    → held_from i (drop i notes) (moves_from rest) ≡ all → held_from (i + 1) (drop (i + 1) notes) (moves_from next) ≡ all
held-more notes i note lt at rest next behind front is b holds fails all former =
    let test : note_holds note (take note.own (moves_from rest)) ≡ false =
    ap (note_holds note) (take-map move_from note.own rest ∙ ap moves_from (sym is)) ∙ (sym holds ∙ fails) in
    ap (λ ms. held_from (i + 1) (drop (i + 1) notes) (moves_from ms)) behind
    ∙ (ap (held_from (i + 1) (drop (i + 1) notes)) (drop-moves note.moves rest)
    ∙ (sym (ap (λ t. if t then Some i else held_from (i + 1) (drop (i + 1) notes) (drop note.moves (moves_from rest))) test)
    ∙ (sym (ap (λ ns. held_from i ns (moves_from rest)) (drop-note notes i note lt at)) ∙ former)))

-- one that holds is the first
pub held-here : (notes : List Note) (i : ℕ) (note : Note) → i < length notes → note ≡ get_or notes i note
    → (rest front : List Move) → front ≡ take note.own rest → (b : Bool) → b ≡ note_holds note (moves_from front)
    → b ≡ true → (all : Option ℕ) → held_from i (drop i notes) (moves_from rest) ≡ all → Some i ≡ all
held-here notes i note lt at rest front is b holds passes all former =
    let test : note_holds note (take note.own (moves_from rest)) ≡ true =
    ap (note_holds note) (take-map move_from note.own rest ∙ ap moves_from (sym is)) ∙ (sym holds ∙ passes) in
    sym (ap (λ t. if t then Some i else held_from (i + 1) (drop (i + 1) notes) (drop note.moves (moves_from rest))) test)
    ∙ (sym (ap (λ ns. held_from i ns (moves_from rest)) (drop-note notes i note lt at)) ∙ former)
