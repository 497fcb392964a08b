use Rattle.std.proofs.Common.{refl}
use Rattle.svg_marks.specs.Breaks.{is_broken}
use Rattle.svg_map.specs.Maps.{middle}
use Rattle.svg_map.proofs.examples.heights.Goals as goal

pub returns-clause-one : goal.returns-clause-one
unfolding is_broken
returns-clause-one c = refl

pub returns-clause-whole : goal.returns-clause-whole
unfolding is_broken
returns-clause-whole c = refl

pub returns-clause-two : goal.returns-clause-two
unfolding is_broken
returns-clause-two c = refl

pub returns-clause-rows : goal.returns-clause-rows
unfolding is_broken
returns-clause-rows c = refl

pub returns-clause-middle : goal.returns-clause-middle
unfolding middle
returns-clause-middle c = refl

pub returns-clause-first : goal.returns-clause-first
unfolding middle
returns-clause-first c = refl
