-- By computing.
use Rattle.std.proofs.Common.{refl}
use Rattle.image_def.specs.Definition.{def_of}
use Rattle.block_loop.specs.Loop.{loop_of, follow, block_from}
use Rattle.block_codec.specs.Blocks.{frame}
use Rattle.block_codec.specs.Reading.{block_at, front_block, item_words}
use Rattle.block_codec.specs.Items.{size_of}
use Rattle.block_codec.specs.Words.{word_of, word_bytes}
use Rattle.boot_caveats.proofs.examples.members.maps_that_move.Goals as goal

pub returns-clause-moves : goal.returns-clause-moves
unfolding def_of loop_of follow block_from block_at front_block item_words frame size_of word_of word_bytes
returns-clause-moves c = refl

pub returns-clause-in_place : goal.returns-clause-in_place
unfolding def_of loop_of follow block_from block_at front_block item_words frame size_of word_of word_bytes
returns-clause-in_place c = refl

pub returns-clause-clear : goal.returns-clause-clear
unfolding def_of loop_of follow block_from block_at front_block item_words frame size_of word_of word_bytes
returns-clause-clear c = refl

pub returns-clause-relative : goal.returns-clause-relative
unfolding def_of loop_of follow block_from block_at front_block item_words frame size_of word_of word_bytes
returns-clause-relative c = refl

pub returns-clause-told : goal.returns-clause-told
unfolding def_of loop_of follow block_from block_at front_block item_words frame size_of word_of word_bytes
returns-clause-told c = refl

pub returns-clause-no_map : goal.returns-clause-no_map
unfolding def_of loop_of follow block_from block_at front_block item_words frame size_of word_of word_bytes
returns-clause-no_map c = refl
