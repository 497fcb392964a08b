-- By computing.
use Rattle.std.proofs.Common.{refl}
use Rattle.block_codec.specs.Blocks.{frame}
use Rattle.block_codec.specs.Items.{size_of}
use Rattle.part_table.proofs.examples.permissions_are_compared.Goals as goal

pub returns-clause-highest : goal.returns-clause-highest
unfolding frame size_of
returns-clause-highest c = refl

pub returns-clause-lowest : goal.returns-clause-lowest
unfolding frame size_of
returns-clause-lowest c = refl

pub returns-clause-least : goal.returns-clause-least
unfolding frame size_of
returns-clause-least c = refl

pub returns-clause-below : goal.returns-clause-below
unfolding frame size_of
returns-clause-below c = refl
