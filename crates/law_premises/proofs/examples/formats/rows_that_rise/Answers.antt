use Rattle.std.proofs.Common.{ℕ, zero, suc, [], ◌∷◌, refl, arith}
use Rattle.std.specs.Prelude.{slice_index}
use Rattle.std.proofs.lemmas.Nat.Bits.{bit_at-zero}
use Rattle.pico_board.specs.Steps.{HasBitsOf}
use Rattle.law_premises.proofs.examples.formats.rows_that_rise.Goals as goal

rises : (i : ℕ) → HasBitsOf (slice_index (5 ∷ []) i) (slice_index (0 ∷ []) i)
rises zero = λ k. omega (arith, bit_at-zero k)
rises (suc i) = λ k. omega (arith)

pub returns : goal.returns
returns c = record { bits = rises }
