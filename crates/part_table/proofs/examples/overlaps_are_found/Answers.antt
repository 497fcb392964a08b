-- By computing.
use Rattle.std.proofs.Common.{refl}
use Rattle.block_codec.specs.Blocks.{frame}
use Rattle.block_codec.specs.Items.{size_of}
use Rattle.part_table.proofs.examples.overlaps_are_found.Goals as goal

pub returns-clause-end : goal.returns-clause-end
unfolding frame size_of
returns-clause-end c = refl

pub returns-clause-start : goal.returns-clause-start
unfolding frame size_of
returns-clause-start c = refl

pub returns-clause-inside : goal.returns-clause-inside
unfolding frame size_of
returns-clause-inside c = refl

pub returns-clause-least : goal.returns-clause-least
unfolding frame size_of
returns-clause-least c = refl

pub returns-clause-first : goal.returns-clause-first
unfolding frame size_of
returns-clause-first c = refl

pub returns-clause-later : goal.returns-clause-later
unfolding frame size_of
returns-clause-later c = refl

pub returns-clause-touching : goal.returns-clause-touching
unfolding frame size_of
returns-clause-touching c = refl
