-- Data for worked examples.
use Rattle.std.specs.Prelude.{ℕ, List, codes}

-- a text of forty bytes
abbrev pub forty : List ℕ
forty = codes "0123456789012345678901234567890123456789"

-- a text of thirty-nine bytes
abbrev pub thirty_nine : List ℕ
thirty_nine = codes "123456789012345678901234567890123456789"
