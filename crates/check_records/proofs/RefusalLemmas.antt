-- The events that did nothing, as they are noted one after another.
use Rattle.std.proofs.Common.{◌≡◌, ℕ, ◌+◌, ◌≤◌, Bool, true, false, cond, List, [], ◌∷◌, ◌++◌, length, Option, Some, None, refl, sym, ap, subst, ◌∙◌, arith, length-append}
use Rattle.std.specs.Prelude.{◌||◌}
use Rattle.text_lines.specs.declared.outcome.EventOutcome.{EventOutcome}
use Rattle.boot_tape.specs.declared.notes.Note.{Note}
use Rattle.check_records.specs.declared.found.Refused.{Refused}
use Rattle.check_records.specs.Idle.{Idle, idle_here, is_idle}
use Rattle.check_records.specs.declared.refusals.Refusals.{Refusals}
use Rattle.check_records.specs.Noting.{HasNotedOutcome, count_in, refused_with}
use Rattle.check_records.specs.Seeing.{came_in, unless_lost}

abbrev counted : ℕ → ℕ → EventOutcome → Option Refused
counted n first outcome = Some (record { count = n; first = first; outcome = outcome })

pub refused-none : (found : Option Refused) → refused_with found [] ≡ found
refused-none None = refl
refused-none (Some r) = ap (λ n. counted n r.first r.outcome) (omega arith)

-- some of them, and then others
pub refused-more : (found : Option Refused) (idle others : List Idle)
    → refused_with (refused_with found idle) others ≡ refused_with found (idle ++ others)
refused-more None [] others = refl
refused-more None (i ∷ idle) others =
    ap (λ n. counted n i.number i.outcome) (sym (length-append (i ∷ idle) others))
refused-more (Some r) idle others =
    let long = length-append idle others in ap (λ n. counted n r.first r.outcome) (omega (arith, long))

-- no more of them than one
few-here : (lost : Bool) (n : ℕ) (outcome : EventOutcome) → length (idle_here lost n outcome) ≤ 1
few-here lost n outcome = go (is_idle lost outcome)
  where
    go : (b : Bool) → length {A = Idle} (cond b (record { number = n; outcome = outcome } ∷ []) []) ≤ 1
    go true = omega arith
    go false = omega arith

pub count-with : (found : Option Refused) (idle : List Idle) → count_in (refused_with found idle) ≡ count_in found + length idle
count-with None [] = omega arith
count-with None (i ∷ idle) = omega arith
count-with (Some r) idle = refl

pub count-more : (old new : Option Refused) (lost : Bool) (n : ℕ) (outcome : EventOutcome)
    → new ≡ refused_with old (idle_here lost n outcome) → count_in old ≤ n → count_in new ≤ n + 1
count-more old new lost n outcome is before =
    let now = ap count_in is ∙ count-with old (idle_here lost n outcome) in
    let few = few-here lost n outcome in
    omega (arith, now, few, before)

or-true : (b : Bool) → (b || true) ≡ true
or-true true = refl
or-true false = refl

-- an event in which power was lost
pub note-lost : (old new : Refusals) (note : Note) (n : ℕ) → note.whole ≡ false → new.found ≡ old.found
    → new.lost ≡ true → HasNotedOutcome old (came_in note) n new
unfolding is_idle
note-lost old new note n is same lost =
    subst (λ (b : Bool). HasNotedOutcome old (unless_lost b note.outcome) n new) (sym is)
    (record { found = same ∙ sym (refused-none old.found); lost = lost ∙ sym (or-true old.lost) })
