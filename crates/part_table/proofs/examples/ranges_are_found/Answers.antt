-- By computing.
use Rattle.std.proofs.Common.{refl}
use Rattle.block_codec.specs.Blocks.{frame}
use Rattle.block_codec.specs.Items.{size_of}
use Rattle.part_table.proofs.examples.ranges_are_found.Goals as goal

pub returns-clause-first : goal.returns-clause-first
unfolding frame size_of
returns-clause-first c = refl

pub returns-clause-last : goal.returns-clause-last
unfolding frame size_of
returns-clause-last c = refl

pub returns-clause-full : goal.returns-clause-full
unfolding frame size_of
returns-clause-full c = refl

pub returns-clause-order : goal.returns-clause-order
unfolding frame size_of
returns-clause-order c = refl

pub returns-clause-one : goal.returns-clause-one
unfolding frame size_of
returns-clause-one c = refl

pub returns-clause-least : goal.returns-clause-least
unfolding frame size_of
returns-clause-least c = refl
