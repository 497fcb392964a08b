use Rattle.std.proofs.Common.{◌≡◌, ◌≤◌, refl, arith}
use Rattle.svg_sweep.proofs.examples.bars_of_a_strip.Goals as goal

pub returns-clause-whole : goal.returns-clause-whole
returns-clause-whole c = (refl, refl, refl, omega arith, (refl, refl, refl, omega arith, refl))

pub returns-clause-no_width : goal.returns-clause-no_width
returns-clause-no_width c = λ fills. let e : 1 ≤ 0 = fills.3 in absurd (omega (arith, e))

pub returns-clause-before : goal.returns-clause-before
returns-clause-before c = λ fills. let e : 1 ≡ 0 = fills.0 in absurd (omega (arith, e))

pub returns-clause-between : goal.returns-clause-between
returns-clause-between c = λ fills. let e : 2 ≡ 1 = fills.4.0 in absurd (omega (arith, e))

pub returns-clause-behind : goal.returns-clause-behind
returns-clause-behind c = λ fills. let e : 2 ≡ 3 = fills.4 in absurd (omega (arith, e))
