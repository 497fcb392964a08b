-- By computing.
use Rattle.std.proofs.Common.{refl}
use Rattle.block_codec.specs.Items.{size_of}
use Rattle.boot_caveats.proofs.examples.blocks_of_windows.Goals as goal

pub returns-clause-with : goal.returns-clause-with
unfolding size_of
returns-clause-with c = refl

pub returns-clause-behind : goal.returns-clause-behind
unfolding size_of
returns-clause-behind c = refl

pub returns-clause-longer : goal.returns-clause-longer
unfolding size_of
returns-clause-longer c = refl

pub returns-clause-first : goal.returns-clause-first
unfolding size_of
returns-clause-first c = refl

pub returns-clause-later : goal.returns-clause-later
unfolding size_of
returns-clause-later c = refl
