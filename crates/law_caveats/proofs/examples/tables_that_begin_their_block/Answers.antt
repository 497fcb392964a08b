-- By computing.
use Rattle.std.proofs.Common.{refl}
use Rattle.block_codec.specs.Blocks.{frame}
use Rattle.block_codec.specs.Items.{size_of}
use Rattle.law_caveats.proofs.examples.tables_that_begin_their_block.Goals as goal

pub returns-clause-last : goal.returns-clause-last
unfolding frame size_of
returns-clause-last c = refl

pub returns-clause-earlier : goal.returns-clause-earlier
unfolding frame size_of
returns-clause-earlier c = refl

pub returns-clause-none : goal.returns-clause-none
unfolding frame size_of
returns-clause-none c = refl
