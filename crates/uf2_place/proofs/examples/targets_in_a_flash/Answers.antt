use Rattle.std.proofs.Common.{refl, arith}
use Rattle.uf2_place.proofs.examples.targets_in_a_flash.Goals as goal

pub returns-clause-at_its_end : goal.returns-clause-at_its_end
returns-clause-at_its_end c = record {
  whole = record { start = refl; len = refl; some = omega arith };
  inside = omega arith;
}

pub returns-clause-past : goal.returns-clause-past
returns-clause-past c = λ is. absurd (omega (arith, is.inside))
