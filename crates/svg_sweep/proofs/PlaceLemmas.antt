-- The rectangles of a row fill its strip.
use Rattle.std.proofs.Common.{◌≡◌, ℕ, ◌+◌, ◌-◌, List, [], ◌∷◌, ◌++◌, length, map, refl, sym, ap, ◌∙◌, subst, arith, append-nil}
use Rattle.std.proofs.lemmas.List.{length-map}
use Rattle.std.specs.Prelude.{codes}
use Rattle.pico_board.specs.declared.Step.{Step}
use Rattle.svg_marks.specs.declared.class.Class.{Class}
use Rattle.svg_marks.specs.declared.mark.Area.{Area}
use Rattle.svg_marks.specs.Marks.{Mark, rects_of}
use Rattle.svg_marks.proofs.RectLemmas.{rects-joined}
use Rattle.svg_sweep.specs.declared.runs.Run.{Run}
use Rattle.equal_runs.specs.Runs.{AreRunsFrom}
use Rattle.svg_sweep.specs.Runs.{chance_runs, run_view, runs}
use Rattle.svg_sweep.specs.Charts.{bar, class_of_step, kind_bar, kind_row, result_row, row_front, run_area, spans_from, strip_frame}
use Rattle.svg_sweep.specs.Places.{FillFrom, run_length}
use Rattle.svg_sweep.proofs.RunLawLemmas.{runs-are}

bars-areas : (part : List ℕ) (rs : List Run) → rects_of (map (bar part) rs) ≡ map run_area rs
bars-areas part [] = refl
bars-areas part (r ∷ rs) = ap (λ z. run_area r ∷ z) (bars-areas part rs)

kind-areas : (steps : List Step) (rs : List Run) → rects_of (map (kind_bar steps) rs) ≡ map run_area rs
kind-areas steps [] = refl
kind-areas steps (r ∷ rs) = ap (λ z. run_area r ∷ z) (kind-areas steps rs)

no-spans : (top k : ℕ) (rs : List Run) → rects_of (spans_from top k rs) ≡ []
no-spans top k [] = refl
no-spans top k (r ∷ rs) = no-spans top (k + 1) rs

front-bars : (name : List ℕ) (top n : ℕ) (more : List Mark) → rects_of (row_front name top n ++ more) ≡ rects_of more
unfolding row_front strip_frame
front-bars name top n more = refl

-- the rectangles of a row of results are those of its runs
pub row-bars : (part : List ℕ) (top : ℕ) (classes : List Class)
    → rects_of (result_row part top classes) ≡ map run_area (runs classes)
unfolding result_row
row-bars part top classes =
    front-bars part top (length classes) _
    ∙ (rects-joined (map (bar part) (runs classes)) _
    ∙ (ap (λ z. z ++ rects_of (spans_from top 0 (chance_runs (runs classes)))) (bars-areas part (runs classes))
    ∙ (ap (λ z. map run_area (runs classes) ++ z) (no-spans top 0 (chance_runs (runs classes)))
    ∙ append-nil (map run_area (runs classes)))))

-- and those of the row of kinds
pub kind-row-bars : (top : ℕ) (steps : List Step)
    → rects_of (kind_row top steps) ≡ map run_area (runs (map class_of_step steps))
unfolding kind_row
kind-row-bars top steps =
    front-bars (codes "steps") top (length steps) _
    ∙ (rects-joined (map (kind_bar steps) (runs (map class_of_step steps))) _
    ∙ (ap (λ z. z ++ []) (kind-areas steps (runs (map class_of_step steps)))
    ∙ append-nil (map run_area (runs (map class_of_step steps)))))

-- runs that follow one another fill the strip from where they begin
pub runs-fill : (classes : List Class) (k : ℕ) (rs : List Run) → AreRunsFrom classes k (map run_view rs)
    → FillFrom (length classes) k (map run_area rs)
runs-fill classes k [] ends = ends
runs-fill classes k (r ∷ rs) are =
    let next : r.last + 1 ≡ k + (r.last + 1 - r.first) = omega (arith, are.0, are.1.some) in (
      are.0,
      refl,
      refl,
      omega (arith, are.1.some),
      subst (λ n. FillFrom (length classes) n (map run_area rs)) next (runs-fill classes (r.last + 1) rs are.3),
    )

pub area-widths : (rs : List Run) → map (λ (area : Area). area.width) (map run_area rs) ≡ map run_length rs
area-widths [] = refl
area-widths (r ∷ rs) = ap (λ z. run_length r ∷ z) (area-widths rs)

pub rows-fill : (part : List ℕ) (top : ℕ) (classes : List Class)
    → FillFrom (length classes) 0 (rects_of (result_row part top classes))
rows-fill part top classes =
    subst (FillFrom (length classes) 0) (sym (row-bars part top classes))
    (runs-fill classes 0 (runs classes) (runs-are classes))

pub kinds-fill : (top : ℕ) (steps : List Step) → FillFrom (length steps) 0 (rects_of (kind_row top steps))
kinds-fill top steps =
    subst (FillFrom (length steps) 0) (sym (kind-row-bars top steps))
    (subst (λ n. FillFrom n 0 (map run_area (runs (map class_of_step steps)))) (length-map steps class_of_step)
    (runs-fill (map class_of_step steps) 0 (runs (map class_of_step steps)) (runs-are (map class_of_step steps))))

pub rows-wide : (part : List ℕ) (top : ℕ) (classes : List Class)
    → map (λ (area : Area). area.width) (rects_of (result_row part top classes)) ≡ map run_length (runs classes)
rows-wide part top classes =
    ap (map (λ (area : Area). area.width)) (row-bars part top classes) ∙ area-widths (runs classes)

pub kinds-wide : (top : ℕ) (steps : List Step)
    → map (λ (area : Area). area.width) (rects_of (kind_row top steps))
    ≡ map run_length (runs (map class_of_step steps))
kinds-wide top steps =
    ap (map (λ (area : Area). area.width)) (kind-row-bars top steps) ∙ area-widths (runs (map class_of_step steps))
