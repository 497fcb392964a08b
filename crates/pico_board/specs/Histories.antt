-- The calls that an object has answered, one after another.
use Rattle.std.specs.Prelude.{List, ◌++◌}

-- these calls are appended to the history: each list that was the old object's history, with these
-- calls after it, is the new one's
abbrev pub Extends : {S X : Type 0} → (S → List X → Type 0) → S → List X → S → Type 0
Extends history old calls new = (h : List _) → history old h → history new (h ++ calls)
