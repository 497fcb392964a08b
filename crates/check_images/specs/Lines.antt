-- The lines of windows: of some windows there is one, and of others none.
use Rattle.std.specs.Prelude.{◌≡◌, List, [], ◌∷◌, ◌++◌, Option}
pub use Rattle.boot_cuts.specs.Runs.{option_list}

-- The lines are those of these windows, in their order. IsLine says which line a window has, or
-- that it has none.
abbrev pub AreLinesOf : {W X : Type 0} → (W → Option X → Type 0) → List W → List X → Type 0
AreLinesOf IsLine [] lines = lines ≡ []
AreLinesOf {W} {X} IsLine (w ∷ windows) lines =
    (line : Option X) × (others : List X) × IsLine w line × AreLinesOf IsLine windows others
    × (lines ≡ option_list line ++ others)
