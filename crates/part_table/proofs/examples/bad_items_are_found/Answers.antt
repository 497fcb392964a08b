-- By computing.
use Rattle.std.proofs.Common.{refl}
use Rattle.block_codec.specs.Blocks.{frame}
use Rattle.block_codec.specs.Items.{size_of}
use Rattle.part_table.proofs.examples.bad_items_are_found.Goals as goal

pub returns-clause-twice : goal.returns-clause-twice
unfolding frame size_of
returns-clause-twice c = refl

pub returns-clause-other_spelling : goal.returns-clause-other_spelling
unfolding frame size_of
returns-clause-other_spelling c = refl

pub returns-clause-short : goal.returns-clause-short
unfolding frame size_of
returns-clause-short c = refl

pub returns-clause-more : goal.returns-clause-more
unfolding frame size_of
returns-clause-more c = refl

pub returns-clause-fewer : goal.returns-clause-fewer
unfolding frame size_of
returns-clause-fewer c = refl

pub returns-clause-empty : goal.returns-clause-empty
unfolding frame size_of
returns-clause-empty c = refl

pub returns-clause-version : goal.returns-clause-version
unfolding frame size_of
returns-clause-version c = refl

pub returns-clause-versions : goal.returns-clause-versions
unfolding frame size_of
returns-clause-versions c = refl

pub returns-clause-hash_defs : goal.returns-clause-hash_defs
unfolding frame size_of
returns-clause-hash_defs c = refl

pub returns-clause-hash_def : goal.returns-clause-hash_def
unfolding frame size_of
returns-clause-hash_def c = refl

pub returns-clause-hash_values : goal.returns-clause-hash_values
unfolding frame size_of
returns-clause-hash_values c = refl

pub returns-clause-hash_value : goal.returns-clause-hash_value
unfolding frame size_of
returns-clause-hash_value c = refl
