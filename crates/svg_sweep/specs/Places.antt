-- Where the rectangles of a picture's rows lie in their strips.
use Rattle.std.specs.Prelude.{◌≡◌, ℕ, ◌+◌, ◌-◌, ◌≤◌, List, [], ◌∷◌}
use Rattle.svg_marks.specs.declared.mark.Area.{Area}
use Rattle.svg_sweep.specs.declared.runs.Run.{Run}

-- Areas that fill a strip of n units from the unit k on. Each begins where the one before ends, is
-- as high as the strip, and is at least one unit wide. The last ends where the strip ends.
abbrev pub FillFrom : ℕ → ℕ → List Area → Type 0
FillFrom n k [] = k ≡ n
FillFrom n k (area ∷ areas) =
    (area.x ≡ k) × (area.y ≡ 0) × (area.height ≡ 1) × (1 ≤ area.width)
    × FillFrom n (k + area.width) areas

-- how many steps a run has
abbrev pub run_length : Run → ℕ
run_length run = run.last + 1 - run.first
