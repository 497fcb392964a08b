-- The script of a plan, by the length of its image.
use Rattle.std.proofs.Common.{◌≡◌, ℕ, ◌+◌, ◌<◌, ◌≤◌, List, OnOk, Result, subst, ◌++◌, length, take, drop, refl, sym, ap, ◌∙◌, append_assoc, lt-ltb, le-ltb}
use Rattle.std.specs.List.{flat_map}
use Rattle.std.proofs.lemmas.List.{take_all}
use Rattle.std.proofs.lemmas.List.Concat.{flat_map-append}
use Rattle.boot_script.specs.Written.{written_event}
use Rattle.script_plan.specs.Plans.{last_events, rest_events, write_events}

-- behind a first sector the rest is erased and written, and the first sector last
pub events-rest : (at : ℕ) (image : List ℕ) → 4096 < length image
    → flat_map written_event (write_events at image)
    ≡ flat_map written_event (rest_events (at + 4096) (drop 4096 image))
    ++ flat_map written_event (last_events 4 at (take 4096 image))
events-rest at image more =
    rw (lt-ltb 4096 (length image) more)
    (flat_map-append written_event (rest_events (at + 4096) (drop 4096 image)) (last_events 4 at (take 4096 image)))

-- where the second call succeeds, both texts stand behind the former one
pub sent-both : {T E : Type 0} (r : Result T E) (at : ℕ) (image rest old mid new : List ℕ) → 4096 < length image
    → rest ≡ drop 4096 image → mid ≡ old ++ flat_map written_event (rest_events (at + 4096) rest)
    → OnOk r (new ≡ mid ++ flat_map written_event (last_events 4 at (take 4096 image)))
    → OnOk r (new ≡ old ++ flat_map written_event (write_events at image))
sent-both r at image rest old mid new more rest_is is done =
    let text = flat_map written_event (rest_events (at + 4096) rest) in
    let same = ap (λ (bytes : List ℕ). flat_map written_event (rest_events (at + 4096) bytes)) rest_is in
    let last = flat_map written_event (last_events 4 at (take 4096 image)) in
    let joined : mid ++ last ≡ old ++ flat_map written_event (write_events at image) =
    ap (λ m. m ++ last) is ∙ append_assoc old text last
    ∙ ap (λ t. old ++ (t ++ last)) same ∙ sym (ap (λ t. old ++ t) (events-rest at image more)) in
    subst (λ (whole : List ℕ). OnOk r (new ≡ whole)) joined done

-- an image of at most a sector is written at once
pub events-first : (at : ℕ) (image : List ℕ) → length image ≤ 4096
    → flat_map written_event (write_events at image) ≡ flat_map written_event (last_events 2 at image)
events-first at image few = rw (le-ltb 4096 (length image) few, take_all 4096 image few) refl
