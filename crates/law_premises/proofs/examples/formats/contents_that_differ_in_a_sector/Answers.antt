use Rattle.std.proofs.Common.{ℕ, zero, suc, ◌≡◌, ◌≤◌, [], ◌∷◌, refl, arith}
use Rattle.std.specs.Prelude.{slice_index}
use Rattle.law_premises.proofs.examples.formats.contents_that_differ_in_a_sector.Goals as goal

behind : (i : ℕ) → 4096 ≤ i → slice_index (2 ∷ []) i ≡ slice_index (1 ∷ []) i
behind zero past = absurd (omega (arith, past))
behind (suc i) past = refl

pub returns : goal.returns
returns c = record {
  outside = record { long = refl; below = λ i below. absurd (omega (arith, below)); above = behind };
  rows = refl;
}
