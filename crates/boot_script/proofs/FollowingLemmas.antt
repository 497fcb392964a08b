-- Events one after another.
use Rattle.std.proofs.Common.{◌≡◌, ℕ, zero, suc, ◌+◌, ◌-◌, ◌<◌, ◌≤◌, Bool, true, false, List, [], ◌∷◌, ◌++◌, length, take, drop, arith, refl, sym, ap, subst, ◌∙◌, append_assoc, append-nil, length-append, inl, inr}
use Rattle.std.specs.Prelude.{◌⊎◌, Result, Ok, Err, Option, Some, None, if◌then◌else◌, nat_lt, ◌==◌, flat_map, slice_index}
use Rattle.std.specs.List.{AllByRecursion}
use Rattle.std.proofs.lemmas.List.{length-drop, drop-drop, drop_all}
use Rattle.std.proofs.lemmas.Bool.{cases_lt}
use Rattle.std.proofs.Math.Seq.{drop-append_seam}
use Rattle.byteorder.specs.Endian.{little_number}
use Rattle.pico_board.specs.declared.boot.BootKind.{BootKind}
use Rattle.boot_script.specs.declared.event.ScriptFault.{ScriptFault}
use Rattle.boot_script.specs.Events.{EventView, End, Command, Uf2, Cut, PowerOn, Reset, Buy, IsWellFormed}
use Rattle.boot_script.specs.Written.{written_event}
use Rattle.boot_script.specs.Reading.{with_rest, is_cut, reset_of, reset_event, event_in}
use Rattle.boot_script.specs.Scripts.{is_end, events_behind, then_others, events_within, events_from, events, IsBeforeEnd, moved_fault, later}
use Rattle.boot_script.proofs.ReadBackLemmas.{event-back}
use Rattle.boot_script.proofs.NumberLemmas.{AreBytes, bytes-drop}
use Rattle.boot_script.proofs.SpelledLemmas.{IsSpelled, event-some, event-spelled}

-- one event that stands n bytes later
abbrev pub later_one : ℕ → Result EventView ScriptFault → Result EventView ScriptFault
later_one n (Ok e) = Ok e
later_one n (Err fault) = Err (moved_fault n fault)

later-if : (n : ℕ) (b : Bool) (x y u v : Result EventView ScriptFault) → u ≡ later_one n x → v ≡ later_one n y
    → (if b then u else v) ≡ later_one n (if b then x else y)
later-if n true x y u v first second = first
later-if n false x y u v first second = second

later-rest : (n at size : ℕ) (rest : List ℕ) (event : List ℕ → EventView)
    → with_rest (n + at) size rest event ≡ later_one n (with_rest at size rest event)
later-rest n at size rest event = later-if n (nat_lt (length rest) size) _ _ _ _ refl refl

later-reset : (n at : ℕ) (found : Option BootKind) → reset_event (n + at) found ≡ later_one n (reset_event at found)
later-reset n at None = refl
later-reset n at (Some boot) = refl

pub later-event : (n at : ℕ) (bs : List ℕ) → event_in (n + at) bs ≡ later_one n (event_in at bs)
later-event n at [] = refl
later-event n at (kind ∷ bs) =
    later-if n (kind == 0) _ _ _ _ refl
    (later-if n (kind == 1) _ _ _ _
    (later-if n (nat_lt (length bs) 32) _ _ _ _ refl (later-if n (nat_lt (length (drop 32 bs)) 4) _ _ _ _ refl
    (later-rest n at (little_number 4 (drop 32 bs)) (drop 4 (drop 32 bs)) (Command (take 32 bs)))))
    (later-if n (kind == 2) _ _ _ _ (later-if n (nat_lt (length bs) 512) _ _ _ _ refl refl)
    (later-if n (kind == 3) _ _ _ _ (later-if n (nat_lt (length bs) 7) _ _ _ _ refl
    (later-if n (is_cut (slice_index bs 4) (little_number 2 (drop 5 bs))) _ _ _ _
    (later-rest n at (little_number 2 (drop 5 bs)) (drop 7 bs) (Cut (little_number 4 bs) (slice_index bs 4 == 1)))
    refl))
    (later-if n (kind == 4) _ _ _ _ refl
    (later-if n (kind == 5) _ _ _ _
    (later-if n (nat_lt (length bs) 5) _ _ _ _ refl
    (later-reset n at (reset_of (slice_index bs 0) (little_number 4 (drop 1 bs)))))
    (later-if n (kind == 6) _ _ _ _ refl refl))))))

-- the events that stand n bytes later
behind-later : (n : ℕ) (es : List EventView) (r : Result (List EventView) ScriptFault)
    → events_behind es (later n r) ≡ later n (events_behind es r)
behind-later n es (Ok fs) = refl
behind-later n es (Err fault) = refl

later-end : (n at k : ℕ) (bs : List ℕ) (e : EventView)
    → ((a : ℕ) (xs : List ℕ) → events_within k (n + a) xs ≡ later n (events_within k a xs))
    → (b : Bool)
    → (if b then Ok [] else events_behind (e ∷ [])
    (events_within k (n + at + length (written_event e)) (drop (length (written_event e)) bs)))
    ≡ later n (if b then Ok [] else events_behind (e ∷ [])
    (events_within k (at + length (written_event e)) (drop (length (written_event e)) bs)))
later-end n at k bs e rest true = refl
later-end n at k bs e rest false =
    let place : n + at + length (written_event e) ≡ n + (at + length (written_event e)) = omega arith in
    ap (λ p. events_behind (e ∷ []) (events_within k p (drop (length (written_event e)) bs))) place
    ∙ ap (λ r. events_behind (e ∷ []) r) (rest (at + length (written_event e)) (drop (length (written_event e)) bs))
    ∙ behind-later n (e ∷ []) (events_within k (at + length (written_event e)) (drop (length (written_event e)) bs))

later-next : (n at k : ℕ) (bs : List ℕ)
    → ((a : ℕ) (xs : List ℕ) → events_within k (n + a) xs ≡ later n (events_within k a xs))
    → (r : Result EventView ScriptFault)
    → then_others (n + at) bs (later_one n r) (events_within k) ≡ later n (then_others at bs r (events_within k))
later-next n at k bs rest (Err fault) = refl
later-next n at k bs rest (Ok e) = later-end n at k bs e rest (is_end e)

pub later-events : (k n at : ℕ) (bs : List ℕ) → events_within k (n + at) bs ≡ later n (events_within k at bs)
later-events zero n at bs = refl
later-events (suc k) n at bs =
    ap (λ r. then_others (n + at) bs r (events_within k)) (later-event n at bs)
    ∙ later-next n at k bs (λ a xs. later-events k n a xs) (event_in at bs)

-- more steps than there are bytes are enough
enough-end : (at k j : ℕ) (bs : List ℕ) (e : EventView) → length bs ≤ k → length bs ≤ j → 1 ≤ length bs
    → ((a : ℕ) (xs : List ℕ) → length xs < k → length xs < j → events_within k a xs ≡ events_within j a xs)
    → (b : Bool)
    → (if b then Ok [] else events_behind (e ∷ [])
    (events_within k (at + length (written_event e)) (drop (length (written_event e)) bs)))
    ≡ (if b then Ok [] else events_behind (e ∷ [])
    (events_within j (at + length (written_event e)) (drop (length (written_event e)) bs)))
enough-end at k j bs e more many some rest true = refl
enough-end at k j bs e more many some rest false =
    let fewer = length-drop (length (written_event e)) bs in
    ap (λ r. events_behind (e ∷ []) r)
    (rest (at + length (written_event e)) (drop (length (written_event e)) bs) (omega (arith, fewer, event-some e))
    (omega (arith, fewer, event-some e)))

enough-next : (at k j : ℕ) (bs : List ℕ) → length bs ≤ k → length bs ≤ j → 1 ≤ length bs
    → ((a : ℕ) (xs : List ℕ) → length xs < k → length xs < j → events_within k a xs ≡ events_within j a xs)
    → (r : Result EventView ScriptFault)
    → then_others at bs r (events_within k) ≡ then_others at bs r (events_within j)
enough-next at k j bs more many some rest (Err fault) = refl
enough-next at k j bs more many some rest (Ok e) = enough-end at k j bs e more many some rest (is_end e)

pub enough : (k j at : ℕ) (bs : List ℕ) → length bs < k → length bs < j
    → events_within k at bs ≡ events_within j at bs
enough zero j at bs more many = absurd (omega arith)
enough (suc k) zero at bs more many = absurd (omega arith)
enough (suc k) (suc j) at [] more many = refl
enough (suc k) (suc j) at (x ∷ bs) more many =
    enough-next at k j (x ∷ bs) (omega arith) (omega arith) (omega arith) (λ a xs few less. enough k j a xs few less)
    (event_in at (x ∷ bs))

-- an event, and then the others from behind it
pub next-events : (bytes : List ℕ) (at : ℕ) (e : EventView) → event_in at (drop at bytes) ≡ Ok e → is_end e ≡ false
    → events_from bytes at ≡ events_behind (e ∷ []) (events_from bytes (at + length (written_event e)))
next-events bytes at e read more = by_place (cases_lt at (length bytes))
  where
    by_place : (at < length bytes) ⊎ (length bytes ≤ at)
        → events_from bytes at ≡ events_behind (e ∷ []) (events_from bytes (at + length (written_event e)))
    by_place (inr past) =
        let none = ap (λ bs. event_in at bs) (drop_all at bytes past) in absurd (cc)
    by_place (inl here) =
        let rest : drop (length (written_event e)) (drop at bytes) ≡ drop (at + length (written_event e)) bytes =
        drop-drop (length (written_event e)) at bytes in
        ap (λ r. then_others at (drop at bytes) r (events_within (length bytes - at))) read
        ∙ ap (λ b. if b then Ok [] else events_behind (e ∷ [])
        (events_within (length bytes - at) (at + length (written_event e))
        (drop (length (written_event e)) (drop at bytes))))
        more
        ∙ ap (λ bs. events_behind (e ∷ []) (events_within (length bytes - at) (at + length (written_event e)) bs)) rest
        ∙ ap (λ r. events_behind (e ∷ []) r)
        (enough (length bytes - at) (suc (length bytes - (at + length (written_event e))))
        (at + length (written_event e))
        (drop (at + length (written_event e)) bytes)
        (omega (arith, length-drop (at + length (written_event e)) bytes, event-some e))
        (omega (arith, length-drop (at + length (written_event e)) bytes)))

-- an end
pub end-events : (bytes : List ℕ) (at : ℕ) (e : EventView) → event_in at (drop at bytes) ≡ Ok e → is_end e ≡ true
    → events_from bytes at ≡ Ok []
end-events bytes at e read last =
    ap (λ r. then_others at (drop at bytes) r (events_within (length bytes - at))) read
    ∙ ap (λ b. if b then Ok [] else events_behind (e ∷ [])
    (events_within (length bytes - at) (at + length (written_event e))
    (drop (length (written_event e)) (drop at bytes))))
    last

-- a fault
pub fault-events : (bytes : List ℕ) (at : ℕ) (f : ScriptFault) → event_in at (drop at bytes) ≡ Err f
    → events_from bytes at ≡ Err f
fault-events bytes at f read = ap (λ r. then_others at (drop at bytes) r (events_within (length bytes - at))) read

-- whole events in front of any bytes
behind-none : (r : Result (List EventView) ScriptFault) → events_behind [] r ≡ r
behind-none (Ok es) = refl
behind-none (Err fault) = refl

behind-both : (e : EventView) (es : List EventView) (r : Result (List EventView) ScriptFault)
    → events_behind (e ∷ []) (events_behind es r) ≡ events_behind (e ∷ es) r
behind-both e es (Ok fs) = refl
behind-both e es (Err fault) = refl

pub front-events : (k j at : ℕ) (es : List EventView) (bs : List ℕ) → AllByRecursion IsBeforeEnd es
    → length (flat_map written_event es ++ bs) < k → length bs < j
    → events_within k at (flat_map written_event es ++ bs)
    ≡ events_behind es (events_within j (at + length (flat_map written_event es)) bs)
front-events k j at [] bs all more many =
    let place : at + 0 ≡ at = omega arith in
    enough k j at bs more many ∙ ap (λ p. events_within j p bs) (sym place)
    ∙ sym (behind-none (events_within j (at + 0) bs))
front-events zero j at (e ∷ es) bs all more many = absurd (omega arith)
front-events (suc k) j at (e ∷ es) bs all more many =
    let apart : (written_event e ++ flat_map written_event es) ++ bs
    ≡ written_event e ++ (flat_map written_event es ++ bs) =
    append_assoc (written_event e) (flat_map written_event es) bs in
    let few = event-some e in
    let long : length ((written_event e ++ flat_map written_event es) ++ bs)
    ≡ length (written_event e) + length (flat_map written_event es ++ bs) =
    ap length apart ∙ length-append (written_event e) (flat_map written_event es ++ bs) in
    let both = length-append (written_event e) (flat_map written_event es) in
    let place : at + length (written_event e) + length (flat_map written_event es)
    ≡ at + length (written_event e ++ flat_map written_event es) = omega (arith, both) in
    ap (λ xs. events_within (suc k) at xs) apart
    ∙ ap (λ r. then_others at (written_event e ++ (flat_map written_event es ++ bs)) r (events_within k))
    (event-back at e (flat_map written_event es ++ bs) all.0.well)
    ∙ ap (λ b. if b then Ok [] else events_behind (e ∷ [])
    (events_within k (at + length (written_event e))
    (drop (length (written_event e)) (written_event e ++ (flat_map written_event es ++ bs))))) all.0.more
    ∙ ap (λ xs. events_behind (e ∷ []) (events_within k (at + length (written_event e)) xs))
    (drop-append_seam (written_event e) (flat_map written_event es ++ bs))
    ∙ ap (λ r. events_behind (e ∷ []) r)
    (front-events k j (at + length (written_event e)) es bs all.1 (omega (arith, long, more, few)) many)
    ∙ behind-both e es (events_within j (at + length (written_event e) + length (flat_map written_event es)) bs)
    ∙ ap (λ p. events_behind (e ∷ es) (events_within j p bs)) place

pub events-append : (es : List EventView) (bs : List ℕ) → AllByRecursion IsBeforeEnd es
    → events (flat_map written_event es ++ bs)
    ≡ events_behind es (later (length (flat_map written_event es)) (events bs))
events-append es bs all =
    let place : 0 + length (flat_map written_event es) ≡ length (flat_map written_event es) + 0 = omega arith in
    front-events (suc (length (flat_map written_event es ++ bs) - 0)) (suc (length bs - 0)) 0 es bs all (omega arith)
    (omega arith)
    ∙ ap (λ p. events_behind es (events_within (suc (length bs - 0)) p bs)) place
    ∙ ap (λ r. events_behind es r) (later-events (suc (length bs - 0)) (length (flat_map written_event es)) 0 bs)

pub whole-script : (es : List EventView) (rest : List ℕ) → AllByRecursion IsBeforeEnd es
    → events (flat_map written_event es ++ (written_event End ++ rest)) ≡ Ok es
whole-script es rest all = events-append es (written_event End ++ rest) all ∙ ap (λ fs. Ok fs) (append-nil es)

-- what is read as the events of a script is what is written of them, an end, and then other bytes
pub record IsScript (bs : List ℕ) (es : List EventView) : Type 0 where
  pub rest : List ℕ
  pub bytes : bs ≡ flat_map written_event es ++ (written_event End ++ rest)
  pub all : AllByRecursion IsBeforeEnd es

pub end-is : (e : EventView) → is_end e ≡ true → e ≡ End
end-is End is = refl
end-is (Command command payload) is = absurd (cc)
end-is (Uf2 block) is = absurd (cc)
end-is (Cut left within pattern) is = absurd (cc)
end-is PowerOn is = absurd (cc)
end-is (Reset kind) is = absurd (cc)
end-is Buy is = absurd (cc)

script-end : (bs : List ℕ) (e : EventView) → IsSpelled bs e → is_end e ≡ true → IsScript bs []
script-end bs e spelled last = record {
  rest = spelled.rest;
  bytes = spelled.bytes ∙ ap (λ x. written_event x ++ spelled.rest) (end-is e last);
  all = tt;
}

script-more : (bs xs : List ℕ) (e : EventView) (es : List EventView) → bs ≡ written_event e ++ xs → IsWellFormed e
    → is_end e ≡ false → IsScript xs es → IsScript bs (e ∷ es)
script-more bs xs e es bytes well more script = record {
  rest = script.rest;
  bytes = bytes ∙ ap (λ ys. written_event e ++ ys) script.bytes
      ∙ sym (append_assoc (written_event e) (flat_map written_event es) (written_event End ++ script.rest));
  all = (record { well = well; more = more }, script.all);
}

bytes-behind : (xs ys : List ℕ) → AreBytes (xs ++ ys) → AreBytes ys
bytes-behind xs ys bytes =
    subst (λ zs. AreBytes zs) (drop-append_seam xs ys) (bytes-drop (length xs) (xs ++ ys) bytes)

script-rest : (at : ℕ) (bs : List ℕ) (e : EventView) (es : List EventView)
    (others : Result (List EventView) ScriptFault) → IsSpelled bs e → is_end e ≡ false
    → events_behind (e ∷ []) others ≡ Ok es
    → ((fs : List EventView) → others ≡ Ok fs → IsScript (drop (length (written_event e)) bs) fs) → IsScript bs es
script-rest at bs e es (Err fault) spelled more read rest = absurd (cc)
script-rest at bs e es (Ok fs) spelled more read rest =
    let same : e ∷ fs ≡ es = cc in
    let behind_it : drop (length (written_event e)) bs ≡ spelled.rest =
    ap (λ xs. drop (length (written_event e)) xs) spelled.bytes ∙ drop-append_seam (written_event e) spelled.rest in
    subst (λ gs. IsScript bs gs) same
    (script-more bs spelled.rest e fs spelled.bytes spelled.well more
    (subst (λ xs. IsScript xs fs) behind_it (rest fs refl)))

script-one : (at k : ℕ) (bs : List ℕ) (e : EventView) (es : List EventView) → IsSpelled bs e → (b : Bool)
    → is_end e ≡ b
    → (if b then Ok [] else events_behind (e ∷ [])
    (events_within k (at + length (written_event e)) (drop (length (written_event e)) bs))) ≡ Ok es
    → ((fs : List EventView) → events_within k (at + length (written_event e)) (drop (length (written_event e)) bs)
    ≡ Ok fs
    → IsScript (drop (length (written_event e)) bs) fs)
    → IsScript bs es
script-one at k bs e es spelled true last read rest =
    let same : [] ≡ es = cc in subst (λ gs. IsScript bs gs) same (script-end bs e spelled last)
script-one at k bs e es spelled false more read rest =
    script-rest at bs e es (events_within k (at + length (written_event e))
    (drop (length (written_event e)) bs)) spelled more
    read rest

script-next : (at k : ℕ) (bs : List ℕ) (es : List EventView) (r : Result EventView ScriptFault) → AreBytes bs
    → event_in at bs ≡ r
    → then_others at bs r (events_within k) ≡ Ok es
    → ((a : ℕ) (xs : List ℕ) (fs : List EventView) → AreBytes xs → events_within k a xs ≡ Ok fs → IsScript xs fs)
    → IsScript bs es
script-next at k bs es (Err fault) bytes is read rest = absurd (cc)
script-next at k bs es (Ok e) bytes is read rest =
    script-one at k bs e es (event-spelled at bs e bytes is) (is_end e) refl read
    (λ fs others. rest (at + length (written_event e)) (drop (length (written_event e)) bs) fs
    (bytes-drop (length (written_event e)) bs bytes) others)

pub script-spelled : (k at : ℕ) (bs : List ℕ) (es : List EventView) → AreBytes bs → events_within k at bs ≡ Ok es
    → IsScript bs es
script-spelled zero at bs es bytes read = absurd (cc)
script-spelled (suc k) at bs es bytes read =
    script-next at k bs es (event_in at bs) bytes refl read
    (λ a xs fs are others. script-spelled k a xs fs are others)
