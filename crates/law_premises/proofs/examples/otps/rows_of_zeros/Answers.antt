use Rattle.std.proofs.Common.{◌≡◌, ◌≤◌, [], refl, arith, inr}
use Rattle.slot_caveats.specs.OtpCaveats.{voted_bits}
use Rattle.law_premises.proofs.examples.otps.rows_of_zeros.Goals as goal

few : 3 ≤ 0 → ⊥
few enough = omega (arith, enough)

pub returns-clause-rows : goal.returns-clause-rows
returns-clause-rows c = (
  [],
  [],
  inr (few, refl),
  (
    [],
    [],
    inr ((λ some. some refl), refl),
    (
      [],
      [],
      inr ((λ some. some refl), refl),
      ([], [], inr ((λ some. some refl), refl), inr ((λ some. some refl), refl), refl),
      refl,
    ),
    refl,
  ),
  refl,
)

no-votes : voted_bits [] 0x038 0 ≡ 0
unfolding voted_bits
no-votes = refl

no-later : voted_bits [] 0x040 1 ≡ 0
unfolding voted_bits
no-later = refl

pub returns-clause-critical : goal.returns-clause-critical
returns-clause-critical c =
    ([], [], inr ((λ some. some no-votes), refl), inr ((λ some. some no-later), refl), refl)
