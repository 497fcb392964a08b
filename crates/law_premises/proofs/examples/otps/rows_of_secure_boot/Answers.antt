use Rattle.std.proofs.Common.{◌≤◌, refl, arith, inl, inr}
use Rattle.law_premises.proofs.examples.otps.rows_of_secure_boot.Goals as goal

pub returns-clause-three : goal.returns-clause-three
returns-clause-three c = inl ((let enough : 3 ≤ 3 = omega arith in enough), refl)

few : 3 ≤ 2 → ⊥
few enough = omega (arith, enough)

pub returns-clause-two : goal.returns-clause-two
returns-clause-two c = inr (few, refl)
