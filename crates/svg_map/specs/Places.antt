-- Where the rectangles of a map lie in its column.
use Rattle.std.specs.Prelude.{◌≡◌, ℕ, ◌+◌, List, [], ◌∷◌}
use Rattle.svg_marks.specs.declared.mark.Area.{Area}
use Rattle.svg_map.specs.Maps.{MapBarView}

-- windows that lie side by side in a flash of n bytes, from this byte on
abbrev pub LieFrom : ℕ → ℕ → List MapBarView → Type 0
LieFrom n at [] = at ≡ n
LieFrom n at (bar ∷ bars) = (bar.window.start ≡ at) × LieFrom n (at + bar.window.len) bars

-- Areas that fill a column of n units from this unit on. Each begins where the one before ends, is
-- as wide as the column, and is as high as its window has bytes. The last ends where the column
-- ends.
abbrev pub FillFrom : ℕ → ℕ → List MapBarView → List Area → Type 0
FillFrom n at [] [] = at ≡ n
FillFrom n at (bar ∷ bars) (area ∷ areas) =
    (area.y ≡ at) × (area.height ≡ bar.window.len) × (area.x ≡ 0) × (area.width ≡ 1)
    × FillFrom n (at + area.height) bars areas
FillFrom n at _ _ = ⊥
