use Rattle.std.proofs.Common.{refl}
use Rattle.svg_map.proofs.examples.colours.Goals as goal

pub returns-clause-dark : goal.returns-clause-dark
returns-clause-dark c = refl

pub returns-clause-light : goal.returns-clause-light
returns-clause-light c = refl

pub returns-clause-starts : goal.returns-clause-starts
returns-clause-starts c = refl

pub returns-clause-free : goal.returns-clause-free
returns-clause-free c = refl

pub returns-clause-mark : goal.returns-clause-mark
returns-clause-mark c = refl
