-- By computing.
use Rattle.std.proofs.Common.{refl}
use Rattle.slot_choice.specs.declared.unit.Member.TheVariants.{B}
use Rattle.slot_choice.specs.Examples.{window_at}
use Rattle.slot_choice.specs.Units.{slot_pair}
use Rattle.boot_rules.specs.Tables.{table_in}
use Rattle.boot_rules.specs.Choosing.{decision_in}
use Rattle.image_check.specs.Image.{image_in}
use Rattle.image_def.specs.Definition.{def_of}
use Rattle.block_loop.specs.Loop.{loop_of, follow, block_from}
use Rattle.block_codec.specs.Blocks.{frame}
use Rattle.block_codec.specs.Reading.{block_at, front_block, item_words}
use Rattle.block_codec.specs.Items.{size_of}
use Rattle.block_codec.specs.Words.{word_of, word_bytes}
use Rattle.law_targets.proofs.examples.an_ungated_target_may_be_a_boot_member.Goals as goal

pub returns-clause-table : goal.returns-clause-table
unfolding table_in decision_in image_in def_of loop_of follow block_from block_at front_block item_words frame size_of
    word_of word_bytes
returns-clause-table c = refl

pub returns-clause-target : goal.returns-clause-target
unfolding table_in decision_in image_in def_of loop_of follow block_from block_at front_block item_words frame size_of
    word_of word_bytes
returns-clause-target c = refl

pub returns-clause-boot_member : goal.returns-clause-boot_member
unfolding table_in decision_in image_in def_of loop_of follow block_from block_at front_block item_words frame size_of
    word_of word_bytes
returns-clause-boot_member c = record {
  place = 0;
  unit = slot_pair 0x2000;
  member = B;
  other = window_at 0 0x2000;
  tried = refl;
  stands = refl;
  pair = refl;
}
