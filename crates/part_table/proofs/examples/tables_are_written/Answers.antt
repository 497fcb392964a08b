-- By computing.
use Rattle.std.proofs.Common.{refl}
use Rattle.block_codec.specs.Words.{word_of}
use Rattle.part_table.proofs.examples.tables_are_written.Goals as goal

pub returns-clause-items : goal.returns-clause-items
unfolding word_of
returns-clause-items c = refl

pub returns-clause-version : goal.returns-clause-version
unfolding word_of
returns-clause-version c = refl

pub returns-clause-size : goal.returns-clause-size
unfolding word_of
returns-clause-size c = refl

pub returns-clause-named : goal.returns-clause-named
unfolding word_of
returns-clause-named c = refl
