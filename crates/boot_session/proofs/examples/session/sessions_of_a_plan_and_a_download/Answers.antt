-- By computing.
use Rattle.std.proofs.Common.{refl}
use Rattle.block_codec.specs.Blocks.{frame}
use Rattle.block_codec.specs.Items.{size_of}
use Rattle.block_codec.specs.Reading.{block_at, front_block, item_words}
use Rattle.block_codec.specs.Words.{word_bytes, word_of}
use Rattle.block_loop.specs.Loop.{block_from, follow, loop_of}
use Rattle.image_def.specs.Definition.{def_of}
use Rattle.image_check.specs.Image.{image_in}
use Rattle.boot_rules.specs.Tables.{table_in}
use Rattle.picoboot_cmd.specs.Pages.{padded_page}
use Rattle.script_plan.specs.Commands.{sent}
use Rattle.uf2_place.specs.Blocks.{written_block, word_bytes as uf2_bytes}
use Rattle.uf2_place.specs.Placement.{programs_in}
use Rattle.boot_session.proofs.examples.session.sessions_of_a_plan_and_a_download.Goals as goal

pub returns-clause-plan : goal.returns-clause-plan
unfolding sent padded_page table_in image_in def_of loop_of follow block_from block_at front_block item_words frame size_of
    word_of word_bytes
returns-clause-plan c = refl

pub returns-clause-first : goal.returns-clause-first
unfolding written_block uf2_bytes programs_in table_in image_in def_of loop_of follow block_from block_at front_block
    item_words frame size_of word_of word_bytes
returns-clause-first c = refl

pub returns-clause-download : goal.returns-clause-download
unfolding written_block uf2_bytes programs_in table_in image_in def_of loop_of follow block_from block_at front_block
    item_words frame size_of word_of word_bytes
returns-clause-download c = refl

pub returns-clause-passed_over : goal.returns-clause-passed_over
unfolding written_block uf2_bytes programs_in table_in image_in def_of loop_of follow block_from block_at front_block
    item_words frame size_of word_of word_bytes
returns-clause-passed_over c = refl

pub returns-clause-behind : goal.returns-clause-behind
unfolding written_block uf2_bytes programs_in table_in image_in def_of loop_of follow block_from block_at front_block
    item_words frame size_of word_of word_bytes
returns-clause-behind c = refl
