-- By computing.
use Rattle.std.proofs.Common.{refl}
use Rattle.block_codec.specs.Blocks.{frame}
use Rattle.block_codec.specs.Items.{size_of}
use Rattle.part_table.proofs.examples.owners_are_read.Goals as goal

pub returns-clause-table : goal.returns-clause-table
unfolding frame size_of
returns-clause-table c = refl

pub returns-clause-owner : goal.returns-clause-owner
unfolding frame size_of
returns-clause-owner c = refl

pub returns-clause-none : goal.returns-clause-none
unfolding frame size_of
returns-clause-none c = refl

pub returns-clause-pair : goal.returns-clause-pair
unfolding frame size_of
returns-clause-pair c = refl

pub returns-clause-of_data : goal.returns-clause-of_data
unfolding frame size_of
returns-clause-of_data c = refl
