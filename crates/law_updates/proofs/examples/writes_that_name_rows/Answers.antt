use Rattle.std.proofs.Common.{ℕ, [], refl, arith}
use Rattle.law_updates.specs.Again.{NamesRow}
use Rattle.law_updates.specs.Examples.{row_write}
use Rattle.law_updates.proofs.examples.writes_that_name_rows.Goals as goal

beside : (row : ℕ) → NamesRow (row_write 0x0c0 1 []) row → NamesRow (row_write 0x0c1 1 []) row → ⊥
beside row one two = let low = one.2 in let high = two.1 in omega (arith, low, high)

pub returns-clause-once : goal.returns-clause-once
returns-clause-once c = (
  λ row never. absurd never,
  (
    λ row one. (λ two. beside row one two, (λ never. never, tt)),
    (λ row two. (λ never. never, tt), (λ row never. absurd never, tt)),
  ),
)

pub returns-clause-twice : goal.returns-clause-twice
returns-clause-twice c = λ named. (named.0 0x0c1 (refl, omega arith, omega arith)).0 (refl, omega arith, omega arith)

pub returns-clause-plain : goal.returns-clause-plain
returns-clause-plain c = (tt, (tt, (tt, tt)))
