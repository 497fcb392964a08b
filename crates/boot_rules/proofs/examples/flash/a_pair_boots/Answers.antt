-- By computing.
use Rattle.std.proofs.Common.{refl}
use Rattle.boot_rules.specs.Tables.{table_in}
use Rattle.boot_rules.specs.Choosing.{decision_in}
use Rattle.image_check.specs.Image.{image_in}
use Rattle.image_def.specs.Definition.{def_of}
use Rattle.block_loop.specs.Loop.{loop_of, follow, block_from}
use Rattle.block_codec.specs.Blocks.{frame}
use Rattle.block_codec.specs.Reading.{block_at, front_block, item_words}
use Rattle.block_codec.specs.Items.{size_of}
use Rattle.block_codec.specs.Words.{word_of, word_bytes}
use Rattle.boot_rules.proofs.examples.flash.a_pair_boots.Goals as goal

pub returns-clause-greater : goal.returns-clause-greater
unfolding table_in decision_in image_in def_of loop_of follow block_from block_at front_block item_words frame size_of
    word_of word_bytes
returns-clause-greater c = refl

pub returns-clause-tie : goal.returns-clause-tie
unfolding table_in decision_in image_in def_of loop_of follow block_from block_at front_block item_words frame size_of
    word_of word_bytes
returns-clause-tie c = refl

pub returns-clause-update : goal.returns-clause-update
unfolding table_in decision_in image_in def_of loop_of follow block_from block_at front_block item_words frame size_of
    word_of word_bytes
returns-clause-update c = refl

pub returns-clause-other_processor : goal.returns-clause-other_processor
unfolding table_in decision_in image_in def_of loop_of follow block_from block_at front_block item_words frame size_of
    word_of word_bytes
returns-clause-other_processor c = refl

pub returns-clause-off : goal.returns-clause-off
unfolding table_in decision_in image_in def_of loop_of follow block_from block_at front_block item_words frame size_of
    word_of word_bytes
returns-clause-off c = refl

pub returns-clause-off_update : goal.returns-clause-off_update
unfolding table_in decision_in image_in def_of loop_of follow block_from block_at front_block item_words frame size_of
    word_of word_bytes
returns-clause-off_update c = refl

pub returns-clause-off_and_bare : goal.returns-clause-off_and_bare
unfolding table_in decision_in image_in def_of loop_of follow block_from block_at front_block item_words frame size_of
    word_of word_bytes
returns-clause-off_and_bare c = refl

pub returns-clause-required_is_not_off : goal.returns-clause-required_is_not_off
unfolding table_in decision_in image_in def_of loop_of follow block_from block_at front_block item_words frame size_of
    word_of word_bytes
returns-clause-required_is_not_off c = refl

pub returns-clause-no_image : goal.returns-clause-no_image
unfolding table_in decision_in image_in def_of loop_of follow block_from block_at front_block item_words frame size_of
    word_of word_bytes
returns-clause-no_image c = refl

pub returns-clause-requested : goal.returns-clause-requested
unfolding table_in decision_in image_in def_of loop_of follow block_from block_at front_block item_words frame size_of
    word_of word_bytes
returns-clause-requested c = refl

pub returns-clause-requested_and_off : goal.returns-clause-requested_and_off
unfolding table_in decision_in image_in def_of loop_of follow block_from block_at front_block item_words frame size_of
    word_of word_bytes
returns-clause-requested_and_off c = refl
