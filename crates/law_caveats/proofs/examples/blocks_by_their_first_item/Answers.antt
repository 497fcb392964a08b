-- By computing.
use Rattle.std.proofs.Common.{refl}
use Rattle.block_codec.specs.Items.{size_of}
use Rattle.law_caveats.proofs.examples.blocks_by_their_first_item.Goals as goal

pub returns-clause-suits : goal.returns-clause-suits
unfolding size_of
returns-clause-suits c = refl

pub returns-clause-suits_not : goal.returns-clause-suits_not
unfolding size_of
returns-clause-suits_not c = refl

pub returns-clause-other : goal.returns-clause-other
unfolding size_of
returns-clause-other c = refl
