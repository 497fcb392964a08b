-- By computing.
use Rattle.std.proofs.Common.{refl}
use Rattle.block_codec.specs.Blocks.{frame}
use Rattle.block_codec.specs.Items.{size_of}
use Rattle.part_table.proofs.examples.bad_digests_are_found.Goals as goal

pub returns-clause-alone : goal.returns-clause-alone
unfolding frame size_of
returns-clause-alone c = refl

pub returns-clause-long : goal.returns-clause-long
unfolding frame size_of
returns-clause-long c = refl

pub returns-clause-passed : goal.returns-clause-passed
unfolding frame size_of
returns-clause-passed c = refl

pub returns-clause-outside : goal.returns-clause-outside
unfolding frame size_of
returns-clause-outside c = refl

pub returns-clause-whole : goal.returns-clause-whole
unfolding frame size_of
returns-clause-whole c = refl

pub returns-clause-other : goal.returns-clause-other
unfolding frame size_of
returns-clause-other c = refl
