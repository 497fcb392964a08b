-- By computing.
use Rattle.std.proofs.Common.{refl}
use Rattle.boot_rules.specs.Tables.{table_in}
use Rattle.image_check.specs.Image.{image_in}
use Rattle.image_def.specs.Definition.{def_of}
use Rattle.block_loop.specs.Loop.{loop_of, follow, block_from}
use Rattle.block_codec.specs.Blocks.{frame}
use Rattle.block_codec.specs.Reading.{block_at, front_block, item_words}
use Rattle.block_codec.specs.Items.{size_of}
use Rattle.block_codec.specs.Words.{word_of, word_bytes}
use Rattle.info_reply.specs.Examples.{info}
use Rattle.boot_machine.specs.Serving.{info_status}
use Rattle.boot_machine.proofs.examples.play.an_answered_target.Goals as goal

pub returns-clause-entered : goal.returns-clause-entered
unfolding table_in image_in def_of loop_of follow block_from block_at front_block item_words frame size_of word_of
    word_bytes info_status
returns-clause-entered c = refl

pub returns-clause-b : goal.returns-clause-b
unfolding table_in image_in def_of loop_of follow block_from block_at front_block item_words frame size_of word_of
    word_bytes info_status
returns-clause-b c =
    record { cmd = info 16 2 0xe48bff59; is = refl; id = refl; asked = refl; status = refl; words = refl }

pub returns-clause-none : goal.returns-clause-none
unfolding table_in image_in def_of loop_of follow block_from block_at front_block item_words frame size_of word_of
    word_bytes info_status
returns-clause-none c =
    record { cmd = info 16 2 0xe48bff56; is = refl; id = refl; asked = refl; status = refl; words = refl }

pub returns-clause-taken : goal.returns-clause-taken
unfolding table_in image_in def_of loop_of follow block_from block_at front_block item_words frame size_of word_of
    word_bytes info_status
returns-clause-taken c = refl
