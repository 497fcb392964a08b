-- What is read of a reader, and written to a writer, piece by piece.
use Rattle.std.specs.Prelude.{◌≡◌, ◌≤◌, ℕ, Option, List, ◌++◌, length, take}
use Rattle.std.specs.Io.KnownBytes.{Appends, Consumes}

-- what was read grew by bytes that the reader had next, where they are known
pub record TakesFrom (before : Option (List ℕ)) (old : List ℕ) (after : Option (List ℕ))
    (new : List ℕ) : Type 0 where
  pub bytes : List ℕ
  pub grows : new ≡ old ++ bytes
  pub taken : Consumes before after bytes

-- a writer took a prefix of the bytes, where its own are known
abbrev pub AppendsInPart : Option (List ℕ) → Option (List ℕ) → List ℕ → Type 0
AppendsInPart before after bytes =
    (n : ℕ) × (n ≤ length bytes) × Appends before after (take n bytes)
