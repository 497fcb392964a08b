-- The rectangles that are counted in a list of marks and then another.
use Rattle.std.proofs.Common.{◌≡◌, List, [], ◌∷◌, ◌++◌, refl, ap}
use Rattle.svg_marks.specs.Marks.{Mark, Plain, Rect, Label, Caption, Strip, Column, StripEnd, Line, Lines, rects_of}

pub rects-joined : (xs ys : List Mark) → rects_of (xs ++ ys) ≡ rects_of xs ++ rects_of ys
rects-joined [] ys = refl
rects-joined (Rect class area colour title ∷ xs) ys = ap (λ z. area ∷ z) (rects-joined xs ys)
rects-joined (Plain area colour ∷ xs) ys = rects-joined xs ys
rects-joined (Label x y words ∷ xs) ys = rects-joined xs ys
rects-joined (Caption class x y words ∷ xs) ys = rects-joined xs ys
rects-joined (Strip area units ∷ xs) ys = rects-joined xs ys
rects-joined (Column area units ∷ xs) ys = rects-joined xs ys
rects-joined (StripEnd ∷ xs) ys = rects-joined xs ys
rects-joined (Line class ends colour title ∷ xs) ys = rects-joined xs ys
rects-joined (Lines class x y words starts ∷ xs) ys = rects-joined xs ys
