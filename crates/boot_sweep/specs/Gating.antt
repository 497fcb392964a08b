-- The pages of a sector that are programmed in a gated list, each once.
use Rattle.std.specs.Prelude.{◌≡◌, ◌/◌, ℕ, List, nat_eq}
use Rattle.std.specs.List.{AllByRecursion, IsDistinct}

-- the pages are different pages of sector s
pub record ArePages (s : ℕ) (pages : List ℕ) : Type 0 where
  pub inside : AllByRecursion (λ p. p / 16 ≡ s) pages
  pub distinct : IsDistinct nat_eq pages
