-- Runs of steps, on the way and whole.
use Rattle.std.proofs.Common.{◌≡◌, ℕ, zero, suc, ◌+◌, ◌<◌, Bool, true, false, List, [], ◌∷◌, ◌++◌, length, drop, get_or, Option, refl, sym, ap, ◌∙◌, append_assoc, append-nil}
use Rattle.std.specs.Prelude.{slice_get}
use Rattle.std.proofs.lemmas.List.{drop_more}
use Rattle.svg_marks.specs.declared.class.Class.{Class}
use Rattle.svg_sweep.specs.declared.runs.Run.{Run}
use Rattle.std.specs.List.{flat_map}
use Rattle.std.proofs.lemmas.Grind.{flat_map-append}
use Rattle.svg_marks.specs.Marks.{Mark, mark_text}
use Rattle.svg_sweep.specs.Charts.{span, spans_from}
use Rattle.svg_sweep.specs.Runs.{ends_run, first_of, next_first, run_by, runs, runs_from}

-- what is next is the first of the rest
pub first-next : (classes : List Class) (i : ℕ) → first_of (drop i classes) ≡ slice_get classes i
first-next [] zero = refl
first-next [] (suc i) = refl
first-next (c ∷ classes) zero = refl
first-next (c ∷ classes) (suc i) = first-next classes i

-- a run that is wanted, and others behind it
run-behind : (front : List Run) (wanted : Bool) (run : Run) (behind : List Run)
    → front ++ run_by wanted run behind ≡ (front ++ run_by wanted run []) ++ behind
run-behind front true run behind = sym (append_assoc front (run ∷ []) behind)
run-behind front false run behind = ap (λ z. z ++ behind) (sym (append-nil front))

-- the runs of the rest are one more, or none, and those of what is behind
pub runs-more : (front next : List Run) (all : List Class) (first i then_ : ℕ) (ends : Bool) (d : Class)
    (after : Option Class) → i < length all → ends ≡ ends_run (get_or all i d) after → after ≡ slice_get all (i + 1)
    → next ≡ front ++ run_by ends (record { first = first; last = i; class = get_or all i d }) []
    → then_ ≡ next_first ends first i
    → front ++ runs_from first i (drop i all) ≡ next ++ runs_from then_ (i + 1) (drop (i + 1) all)
runs-more front next all first i then_ ends d after lt ends_is after_is next_is then_is =
    let class : Class = get_or all i d in
    let run : Run = record { first = first; last = i; class = class } in
    let behind : List Class = drop (i + 1) all in
    ap (λ cs. front ++ runs_from first i cs) (drop_more all i d lt)
    ∙ (ap (λ t. front ++ run_by t run (runs_from (next_first t first i) (i + 1) behind))
    (ap (λ o. ends_run class o) (first-next all (i + 1) ∙ sym after_is) ∙ sym ends_is)
    ∙ (run-behind front ends run (runs_from (next_first ends first i) (i + 1) behind)
    ∙ (ap (λ z. z ++ runs_from (next_first ends first i) (i + 1) behind) (sym next_is)
    ∙ ap (λ n. next ++ runs_from n (i + 1) behind) (sym then_is))))

-- before the first step there is no run
pub runs-begin : (front : List Run) (classes : List Class) → front ≡ [] → front ++ runs_from 0 0 classes ≡ runs classes
unfolding runs
runs-begin front classes none = ap (λ z. z ++ runs_from 0 0 classes) none

-- the names of the rest are one more, and those of what is behind
pub spans-more : (front next : List ℕ) (top i : ℕ) (all : List Run) (d : Run) → i < length all
    → next ≡ front ++ mark_text (span top i (get_or all i d))
    → front ++ flat_map mark_text (spans_from top i (drop i all))
    ≡ next ++ flat_map mark_text (spans_from top (i + 1) (drop (i + 1) all))
spans-more front next top i all d lt next_is =
    let text : List ℕ = flat_map mark_text (spans_from top (i + 1) (drop (i + 1) all)) in
    ap (λ rest. front ++ flat_map mark_text (spans_from top i rest)) (drop_more all i d lt)
    ∙ (sym (append_assoc front (mark_text (span top i (get_or all i d))) text) ∙ ap (λ z. z ++ text) (sym next_is))

-- a row: its front, its rectangles, the end of its strip, and what stands below it
pub row-drawn : (o a b c d : List ℕ) (front bars tail : List Mark) (mark : Mark) (rects text : List ℕ)
    → a ≡ o ++ flat_map mark_text front → b ≡ a ++ rects → rects ≡ flat_map mark_text bars
    → c ≡ b ++ mark_text mark → d ≡ c ++ text → text ≡ flat_map mark_text tail
    → d ≡ o ++ flat_map mark_text (front ++ (bars ++ (mark ∷ tail)))
row-drawn o a b c d front bars tail mark rects text first second rects_are third fourth text_is =
    let f = flat_map mark_text front in
    let r = flat_map mark_text bars in
    let m = mark_text mark in
    let t = flat_map mark_text tail in
    fourth
    ∙ ap (λ z. z ++ text) (third ∙ ap (λ z. z ++ m) (second ∙ ap (λ z. a ++ z) rects_are ∙ ap (λ z. z ++ r) first))
    ∙ ap (λ z. (((o ++ f) ++ r) ++ m) ++ z) text_is
    ∙ (append_assoc ((o ++ f) ++ r) m t ∙ (append_assoc (o ++ f) r (m ++ t) ∙ append_assoc o f (r ++ (m ++ t))))
    ∙ ap (λ z. o ++ z) (sym (flat_map-append mark_text front (bars ++ (mark ∷ tail))
    ∙ ap (λ z. f ++ z) (flat_map-append mark_text bars (mark ∷ tail))))
