-- The rectangles of windows that lie side by side fill the column.
use Rattle.std.proofs.Common.{◌≡◌, ℕ, ◌+◌, List, [], ◌∷◌, ◌++◌, map, refl, sym, ap, ◌∙◌, subst, append-nil}
use Rattle.svg_marks.specs.Marks.{Mark, rects_of}
use Rattle.svg_marks.proofs.RectLemmas.{rects-joined}
use Rattle.svg_map.specs.Maps.{MapBarView, bar_height, map_marks, row_marks, rows_from, windows_from}
use Rattle.svg_map.specs.Places.{FillFrom, LieFrom}

one-row : (flash high k top : ℕ) (bar : MapBarView) (more : List Mark)
    → rects_of (row_marks flash high k top bar ++ more) ≡ rects_of more
unfolding row_marks
one-row flash high k top bar more = refl

no-rows : (flash high k top : ℕ) (bars : List MapBarView) → rects_of (rows_from flash high k top bars) ≡ []
no-rows flash high k top [] = refl
no-rows flash high k top (bar ∷ bars) =
    one-row flash high k top bar _ ∙ no-rows flash high (k + 1) (top + bar_height bar) bars

marks-rects : (flash high : ℕ) (bars : List MapBarView)
    → rects_of (map_marks flash high bars) ≡ rects_of (windows_from 0 bars)
unfolding map_marks
marks-rects flash high bars =
    rects-joined (windows_from 0 bars) _
    ∙ (ap (λ z. rects_of (windows_from 0 bars) ++ z) (no-rows flash high 0 24 bars)
    ∙ append-nil (rects_of (windows_from 0 bars)))

windows-fill : (n at k : ℕ) (bars : List MapBarView) → LieFrom n at bars
    → FillFrom n at bars (rects_of (windows_from k bars))
windows-fill n at k [] ends = ends
windows-fill n at k (bar ∷ bars) lie =
    (lie.0, refl, refl, refl, windows-fill n (at + bar.window.len) (k + 1) bars lie.1)

pub column-fills : (flash high : ℕ) (bars : List MapBarView) → LieFrom flash 0 bars
    → FillFrom flash 0 bars (rects_of (map_marks flash high bars))
column-fills flash high bars lie =
    subst (FillFrom flash 0 bars) (sym (marks-rects flash high bars)) (windows-fill flash 0 0 bars lie)
