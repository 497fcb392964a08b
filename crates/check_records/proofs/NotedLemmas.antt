-- The events of a script are noted one after another.
use Rattle.std.proofs.Common.{◌≡◌, ◌∙◌, ℕ, zero, suc, ◌+◌, ◌<◌, ◌≤◌, Bool, true, false, List, [], ◌∷◌, length, drop, get_or, Option, None, Some, Bor, refl, sym, ap, subst, arith}
use Rattle.std.specs.Prelude.{◌||◌, MatchOption}
use Rattle.std.proofs.lemmas.List.{drop_more}
use Rattle.std.specs.List.{list_any}
use Rattle.boot_script.specs.Events.{EventView}
use Rattle.text_lines.specs.declared.outcome.EventOutcome.{EventOutcome}
use Rattle.boot_tape.specs.declared.notes.Note.{Note}
use Rattle.check_records.specs.declared.downloads.Beginning.{Beginning}
use Rattle.check_records.specs.declared.downloads.Share.{Share}
use Rattle.check_records.specs.declared.found.Records.{Records}
use Rattle.check_records.specs.declared.found.Refused.{Refused}
use Rattle.check_records.specs.declared.noting.Downloads.{Downloads}
use Rattle.check_records.specs.declared.noting.Open.{Open}
use Rattle.check_records.specs.declared.refusals.Refusals.{Refusals}
use Rattle.check_records.specs.Idle.{idle_from, idle_here, is_lost, refused_of}
use Rattle.check_records.specs.Noting.{HasNotedOutcome, HasNotedShare, current_after, refused_with}
use Rattle.check_records.specs.Seeing.{came_in, found_of, outcomes_seen, records_seen, share_seen, shares_seen}
use Rattle.check_records.specs.Unfinished.{first_number, is_beginning, open_from}
use Rattle.check_records.proofs.OpenLemmas.{begun-more, open_after, open-first}
use Rattle.check_records.proofs.RefusalLemmas.{refused-more, refused-none}

-- what is kept, and then what comes of further events, is what comes of all
pub record KeptOf (refusals : Refusals) (downloads : Downloads) (number : ℕ) (outcomes all : List EventOutcome)
    (shares every : List Share) : Type 0 where
  pub refused : refused_with refusals.found (idle_from refusals.lost number outcomes) ≡ refused_of (idle_from false 0 all)
  pub waiting : open_after downloads.current downloads.waiting.items number shares ≡ open_after None [] 0 every
  pub begins : (downloads.begun || list_any is_beginning shares) ≡ list_any is_beginning every

-- the events before those that are left, the first of which has this number, were noted
abbrev pub NotedOn : Refusals → Downloads → ℕ → List EventView → List Note → List EventView → List Note → Type 0
NotedOn refusals downloads number left notes events every =
    KeptOf refusals downloads number (outcomes_seen left notes) (outcomes_seen events every)
    (shares_seen downloads.current left notes) (shares_seen None events every)

-- nothing was noted yet
pub noted-first : (refusals : Refusals) (downloads : Downloads) (left : List EventView) (notes : List Note)
    (events : List EventView) → left ≡ events → refusals.found ≡ None → refusals.lost ≡ false → downloads.current ≡ None
    → downloads.begun ≡ false → downloads.waiting.items ≡ [] → NotedOn refusals downloads 0 left notes events notes
noted-first refusals downloads left notes events same found lost current begun waiting = record {
  refused = ap (λ (es : List EventView). refused_with refusals.found (idle_from refusals.lost 0 (outcomes_seen es notes))) same
      ∙ (ap (λ (f : Option Refused). refused_with f (idle_from refusals.lost 0 (outcomes_seen events notes))) found
      ∙ ap (λ (b : Bool). refused_of (idle_from b 0 (outcomes_seen events notes))) lost);
  waiting = ap (λ (es : List EventView). open_after downloads.current downloads.waiting.items 0 (shares_seen downloads.current es notes)) same
      ∙ (ap (λ (c : Option Beginning). open_after c downloads.waiting.items 0 (shares_seen c events notes)) current
      ∙ ap (λ (os : List Open). open_after None os 0 (shares_seen None events notes)) waiting);
  begins = ap (λ (es : List EventView). downloads.begun || list_any is_beginning (shares_seen downloads.current es notes)) same
      ∙ (ap (λ (c : Option Beginning). downloads.begun || list_any is_beginning (shares_seen c events notes)) current
      ∙ ap (λ (b : Bool). b || list_any is_beginning (shares_seen None events notes)) begun);
}

-- one event more
module _ (r s : Refusals) (d e : Downloads) (number : ℕ) (all : List EventOutcome) (every : List Share) (outcome : EventOutcome)
    (outcomes : List EventOutcome) (share : Share) (told : HasNotedOutcome r outcome number s)
    (is : HasNotedShare d share number e) where
  kept-more : (shares : List Share) → KeptOf r d number (outcome ∷ outcomes) all (share ∷ shares) every
      → KeptOf s e (number + 1) outcomes all shares every
  kept-more shares on = record {
    refused = ap (λ (f : Option Refused). refused_with f (idle_from s.lost (number + 1) outcomes)) told.found
        ∙ (ap (λ (b : Bool). refused_with (refused_with r.found (idle_here r.lost number outcome))
        (idle_from b (number + 1) outcomes)) told.lost
        ∙ (refused-more r.found (idle_here r.lost number outcome)
        (idle_from (r.lost || is_lost outcome) (number + 1) outcomes) ∙ on.refused));
    waiting = ap (λ (c : Option Beginning). open_after c e.waiting.items (number + 1) shares) is.current
        ∙ (ap (λ (os : List Open). open_after (current_after d.current share) os (number + 1) shares) is.waiting ∙ on.waiting);
    begins = ap (λ (b : Bool). b || list_any is_beginning shares) is.begun
        ∙ (begun-more d.begun (is_beginning share) (list_any is_beginning shares) ∙ on.begins);
  }

pub noted-more : (r s : Refusals) (d e : Downloads) (number : ℕ) (left : List EventView) (notes : List Note)
    (events : List EventView) (every : List Note) (event : EventView) (others : List EventView) (note : Note)
    (rest : List Note) (share : Share) → left ≡ event ∷ others → notes ≡ note ∷ rest
    → HasNotedOutcome r (came_in note) number s → share ≡ share_seen d.current event note
    → HasNotedShare d share number e → NotedOn r d number left notes events every
    → NotedOn s e (number + 1) others rest events every
noted-more r s d e number left notes events every event others note rest share first one told seen is on =
    let here : HasNotedShare d (share_seen d.current event note) number e =
    subst (λ (x : Share). HasNotedShare d x number e) seen is in
    let before : NotedOn r d number (event ∷ others) (note ∷ rest) events every =
    subst (λ (ns : List Note). NotedOn r d number (event ∷ others) ns events every) one
    (subst (λ (es : List EventView). NotedOn r d number es notes events every) first on) in
    subst (λ (c : Option Beginning). KeptOf s e (number + 1) (outcomes_seen others rest) (outcomes_seen events every)
    (shares_seen c others rest) (shares_seen None events every)) (sym here.current)
    (kept-more r s d e number (outcomes_seen events every) (shares_seen None events every) (came_in note)
    (outcomes_seen others rest) (share_seen d.current event note) told here
    (shares_seen (current_after d.current (share_seen d.current event note)) others rest) before)

or-none : (b : Bool) → (b || false) ≡ b
or-none true = refl
or-none false = refl

abbrev found-of : Option Refused → Option ℕ → Bool → Records
found-of refused unfinished begins = record { refused = refused; unfinished = unfinished; begins = begins }

-- nothing more is to come
kept-end : (r : Refusals) (d : Downloads) (number : ℕ) (all : List EventOutcome) (every : List Share)
    → KeptOf r d number [] all [] every
    → found_of r d
    ≡ found-of (refused_of (idle_from false 0 all)) (first_number (open_from 0 every)) (list_any is_beginning every)
kept-end r d number all every on =
    let refused : r.found ≡ refused_of (idle_from false 0 all) = sym (refused-none r.found) ∙ on.refused in
    let waiting : d.waiting.items ≡ open_from 0 every = on.waiting ∙ open-first every in
    let begins : d.begun ≡ list_any is_beginning every = sym (or-none d.begun) ∙ on.begins in
    ap (λ (x : Option Refused). found-of x (first_number d.waiting.items) d.begun) refused
    ∙ (ap (λ (os : List Open). found-of (refused_of (idle_from false 0 all)) (first_number os) d.begun) waiting
    ∙ ap (found-of (refused_of (idle_from false 0 all)) (first_number (open_from 0 every))) begins)

-- behind the last event
pub noted-end : (r : Refusals) (d : Downloads) (number : ℕ) (left : List EventView) (notes : List Note)
    (events : List EventView) (every : List Note) → left ≡ [] → NotedOn r d number left notes events every
    → found_of r d ≡ records_seen events every
noted-end r d number left notes events every none on =
    kept-end r d number (outcomes_seen events every) (shares_seen None events every)
    (subst (λ (es : List EventView). NotedOn r d number es notes events every) none on)

-- behind the last note
outcomes-none : (left : List EventView) → outcomes_seen left [] ≡ []
outcomes-none [] = refl
outcomes-none (event ∷ events) = refl

shares-none : (current : Option Beginning) (left : List EventView) → shares_seen current left [] ≡ []
shares-none current [] = refl
shares-none current (event ∷ events) = refl

pub noted-short : (r : Refusals) (d : Downloads) (number : ℕ) (left : List EventView) (notes : List Note)
    (events : List EventView) (every : List Note) → notes ≡ [] → NotedOn r d number left notes events every
    → found_of r d ≡ records_seen events every
noted-short r d number left notes events every none on =
    kept-end r d number (outcomes_seen events every) (shares_seen None events every)
    (subst (λ (xs : List Share). KeptOf r d number [] (outcomes_seen events every) xs (shares_seen None events every))
    (ap (λ (ns : List Note). shares_seen d.current left ns) none ∙ shares-none d.current left)
    (subst (λ (os : List EventOutcome). KeptOf r d number os (outcomes_seen events every)
    (shares_seen d.current left notes) (shares_seen None events every))
    (ap (outcomes_seen left) none ∙ outcomes-none left) on))

-- what is at a place of the notes, or behind them
abbrev IsAt : List Note → ℕ → Option (Bor Note) → Type 0
IsAt notes i r =
    MatchOption r (length notes ≤ i) (λ (x : Bor Note). (i < length notes) × ((d : Note) → x.now ≡ get_or notes i d))

drop-none : (notes : List Note) (i : ℕ) → length notes ≤ i → drop i notes ≡ []
drop-none [] zero few = refl
drop-none [] (suc i) few = refl
drop-none (note ∷ notes) zero few = absurd (omega (arith, few))
drop-none (note ∷ notes) (suc i) few = drop-none notes i (omega (arith, few))

pub note-here : (notes : List Note) (i : ℕ) (r : Option (Bor Note)) (note : Bor Note) → IsAt notes i r → r ≡ Some note
    → drop i notes ≡ note.now ∷ drop (i + 1) notes
note-here notes i None note at is = cc
note-here notes i (Some x) note at is =
    let same : x ≡ note = cc in
    drop_more notes i x.now at.0
    ∙ (ap (λ (n : Note). n ∷ drop (i + 1) notes) (sym (at.1 x.now)) ∙ ap (λ (n : Bor Note). n.now ∷ drop (i + 1) notes) same)

pub note-gone : (notes : List Note) (i : ℕ) (r : Option (Bor Note)) → IsAt notes i r → r ≡ None → drop i notes ≡ []
note-gone notes i None at is = drop-none notes i at
note-gone notes i (Some x) at is = cc
