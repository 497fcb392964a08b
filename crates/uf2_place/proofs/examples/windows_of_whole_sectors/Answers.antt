use Rattle.std.proofs.Common.{refl, arith}
use Rattle.uf2_place.proofs.examples.windows_of_whole_sectors.Goals as goal

pub returns-clause-least : goal.returns-clause-least
returns-clause-least c = record { start = refl; len = refl; some = omega arith }

pub returns-clause-at_zero : goal.returns-clause-at_zero
returns-clause-at_zero c = record { start = refl; len = refl; some = omega arith }

pub returns-clause-none : goal.returns-clause-none
returns-clause-none c = λ is. absurd (omega (arith, is.some))

pub returns-clause-half_more : goal.returns-clause-half_more
returns-clause-half_more c = λ is. absurd (omega (arith, is.len))

pub returns-clause-half_behind : goal.returns-clause-half_behind
returns-clause-half_behind c = λ is. absurd (omega (arith, is.start))
