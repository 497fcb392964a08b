-- The name in a caveat's line.
use Rattle.std.specs.Prelude.{◌≡◌, ◌⊎◌, ℕ, List, ◌++◌, codes}

-- the first word behind `caveat` in a line is this name: nothing follows it, or a space
abbrev pub HasName : List ℕ → List ℕ → Type 0
HasName text name =
    (text ≡ codes "caveat " ++ name)
    ⊎ ((rest : List ℕ) × (text ≡ codes "caveat " ++ (name ++ (codes " " ++ rest))))
