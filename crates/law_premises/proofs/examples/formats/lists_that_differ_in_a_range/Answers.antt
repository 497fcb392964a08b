use Rattle.std.proofs.Common.{ℕ, zero, suc, ◌≡◌, ◌≤◌, ◌<◌, [], ◌∷◌, refl, arith}
use Rattle.std.specs.Prelude.{slice_index}
use Rattle.law_premises.proofs.examples.formats.lists_that_differ_in_a_range.Goals as goal

first : (i : ℕ) → i < 1 → slice_index (7 ∷ 5 ∷ 9 ∷ []) i ≡ slice_index (7 ∷ 8 ∷ 9 ∷ []) i
first zero low = refl
first (suc i) low = absurd (omega (arith, low))

last : (i : ℕ) → 2 ≤ i → slice_index (7 ∷ 5 ∷ 9 ∷ []) i ≡ slice_index (7 ∷ 8 ∷ 9 ∷ []) i
last zero past = absurd (omega (arith, past))
last (suc zero) past = absurd (omega (arith, past))
last (suc (suc i)) past = refl

pub returns-clause-within : goal.returns-clause-within
returns-clause-within c = record { long = refl; below = first; above = last }

pub returns-clause-below : goal.returns-clause-below
returns-clause-below c = λ same. let e : 5 ≡ 8 = same.below 1 (omega arith) in absurd (omega (arith, e))

pub returns-clause-above : goal.returns-clause-above
returns-clause-above c = λ same. let e : 5 ≡ 8 = same.above 1 (omega arith) in absurd (omega (arith, e))

pub returns-clause-longer : goal.returns-clause-longer
returns-clause-longer c = λ same. let e : 4 ≡ 3 = same.long in absurd (omega (arith, e))
