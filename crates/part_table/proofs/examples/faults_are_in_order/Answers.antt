-- By computing.
use Rattle.std.proofs.Common.{refl}
use Rattle.block_codec.specs.Blocks.{frame}
use Rattle.block_codec.specs.Items.{size_of}
use Rattle.part_table.proofs.examples.faults_are_in_order.Goals as goal

pub returns-clause-item : goal.returns-clause-item
unfolding frame size_of
returns-clause-item c = refl

pub returns-clause-permissions : goal.returns-clause-permissions
unfolding frame size_of
returns-clause-permissions c = refl

pub returns-clause-range : goal.returns-clause-range
unfolding frame size_of
returns-clause-range c = refl

pub returns-clause-overlap : goal.returns-clause-overlap
unfolding frame size_of
returns-clause-overlap c = refl

pub returns-clause-link : goal.returns-clause-link
unfolding frame size_of
returns-clause-link c = refl
