-- By computing.
use Rattle.std.proofs.Common.{refl}
use Rattle.block_codec.specs.Blocks.{frame}
use Rattle.block_codec.specs.Items.{size_of}
use Rattle.part_table.proofs.examples.spellings_are_read.Goals as goal

pub returns-clause-long : goal.returns-clause-long
unfolding frame size_of
returns-clause-long c = refl

pub returns-clause-unread : goal.returns-clause-unread
unfolding frame size_of
returns-clause-unread c = refl

pub returns-clause-none : goal.returns-clause-none
unfolding frame size_of
returns-clause-none c = refl

pub returns-clause-later : goal.returns-clause-later
unfolding frame size_of
returns-clause-later c = refl

pub returns-clause-version : goal.returns-clause-version
unfolding frame size_of
returns-clause-version c = refl

pub returns-clause-before : goal.returns-clause-before
unfolding frame size_of
returns-clause-before c = refl

pub returns-clause-rows : goal.returns-clause-rows
unfolding frame size_of
returns-clause-rows c = refl
