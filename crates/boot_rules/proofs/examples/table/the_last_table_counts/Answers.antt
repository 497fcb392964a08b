-- By computing.
use Rattle.std.proofs.Common.{refl}
use Rattle.block_codec.specs.Blocks.{frame}
use Rattle.block_codec.specs.Items.{size_of}
use Rattle.block_codec.specs.Words.{word_bytes}
use Rattle.boot_rules.proofs.examples.table.the_last_table_counts.Goals as goal

pub returns-clause-only : goal.returns-clause-only
unfolding frame size_of word_bytes
returns-clause-only c = refl

pub returns-clause-last : goal.returns-clause-last
unfolding frame size_of word_bytes
returns-clause-last c = refl

pub returns-clause-before_image : goal.returns-clause-before_image
unfolding frame size_of word_bytes
returns-clause-before_image c = refl

pub returns-clause-behind_image : goal.returns-clause-behind_image
unfolding frame size_of word_bytes
returns-clause-behind_image c = refl

pub returns-clause-last_is_faulty : goal.returns-clause-last_is_faulty
unfolding frame size_of word_bytes
returns-clause-last_is_faulty c = refl

pub returns-clause-first_is_faulty : goal.returns-clause-first_is_faulty
unfolding frame size_of word_bytes
returns-clause-first_is_faulty c = refl

pub returns-clause-without : goal.returns-clause-without
unfolding frame size_of word_bytes
returns-clause-without c = refl

pub returns-clause-no_loop : goal.returns-clause-no_loop
unfolding frame size_of word_bytes
returns-clause-no_loop c = refl

pub returns-clause-fits : goal.returns-clause-fits
unfolding frame size_of word_bytes
returns-clause-fits c = refl

pub returns-clause-too_long : goal.returns-clause-too_long
unfolding frame size_of word_bytes
returns-clause-too_long c = refl

pub returns-clause-slots_before : goal.returns-clause-slots_before
unfolding frame size_of word_bytes
returns-clause-slots_before c = refl
